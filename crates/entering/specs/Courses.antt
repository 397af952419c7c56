-- What an accepted order does, from the plan of what it meets.
use Rattle.std.specs.Prelude.{ℕ, Bool, true, false, cond, Some, None, Option, ◌==◌}
use Rattle.model.specs.declared.types.OrderPrice.{OrderPrice}
use Rattle.model.specs.declared.types.OrderPrice.TheVariants.{Market, Limit}
use Rattle.model.specs.declared.types.Condition.{Condition}
use Rattle.model.specs.declared.types.Condition.TheVariants.{Plain, FillOrKill, ImmediateOrCancel}
use Rattle.model.specs.declared.types.Entry.{Entry}
use Rattle.model.specs.declared.types.Phase.{Phase}
use Rattle.model.specs.declared.types.Phase.TheVariants.{Trading}
use Rattle.model.specs.declared.types.Reason.TheVariants.{ConditionUnmet, NothingOpposite}
use Rattle.model.specs.Entry.{phase_after}
use Rattle.meeting.specs.declared.plans.Plan.{Plan}
use Rattle.entering.specs.declared.courses.Fate.{Fate}
use Rattle.entering.specs.declared.courses.Fate.TheVariants.{Stands, Withdrawn, Traded}
use Rattle.entering.specs.declared.courses.Course.{Course}

-- how many orders stand by a fate
abbrev pub standing_by : Fate → ℕ
standing_by (Stands p) = 1
standing_by (Withdrawn r) = 0
standing_by Traded = 0

-- how many records are written by a fate
abbrev pub records_by : Fate → ℕ
records_by (Stands p) = 0
records_by (Withdrawn r) = 1
records_by Traded = 0

-- nothing of the order trades
abbrev pub untraded : Entry → Fate → Phase → Course
untraded e f ph = record { fills = 0; removed = 0; remaining = e.quantity; fate = f; phase = ph }

-- and it stands as it was entered
abbrev pub stands_whole : Phase → Entry → Course
stands_whole ph e = untraded e (Stands e.price) ph

-- or is withdrawn for its condition
abbrev pub goes_whole : Entry → Course
goes_whole e = untraded e (Withdrawn ConditionUnmet) Trading

-- what becomes of a market order that is not filled whole: it stands at its last fill's price, or as market where an interruption came first; with nothing opposite it is withdrawn
abbrev pub market_fate : Option ℕ → Bool → Fate
market_fate (Some p) interrupted = Stands (Limit p)
market_fate None true = Stands Market
market_fate None false = Withdrawn NothingOpposite

-- what becomes of an order that is not filled whole
abbrev pub remaining_fate : Condition → OrderPrice → Plan → Fate
remaining_fate Plain Market t = market_fate t.last_price t.interrupted
remaining_fate Plain (Limit p) t = Stands (Limit p)
remaining_fate FillOrKill p t = Withdrawn ConditionUnmet
remaining_fate ImmediateOrCancel p t = Withdrawn ConditionUnmet

-- what becomes of what a plan leaves of an order
abbrev pub fate_of : Entry → Plan → Fate
fate_of e t = cond (t.remaining == 0) Traded (remaining_fate e.condition e.price t)

-- an order is filled by its plan
abbrev pub filled_by : Entry → Plan → Course
filled_by e t = record { fills = t.fills; removed = t.removed; remaining = t.remaining; fate = fate_of e t; phase = phase_after t.interrupted }

-- an inactive order in trading stands, or is withdrawn if it has a condition
abbrev pub inactive_course : Entry → Condition → Course
inactive_course e Plain = stands_whole Trading e
inactive_course e FillOrKill = goes_whole e
inactive_course e ImmediateOrCancel = goes_whole e

-- an active order is filled by its plan; fill-or-kill, only if all of it is
abbrev pub active_course : Entry → Condition → Plan → Course
active_course e Plain t = filled_by e t
active_course e FillOrKill t = cond (t.remaining == 0) (filled_by e t) (goes_whole e)
active_course e ImmediateOrCancel t = filled_by e t
