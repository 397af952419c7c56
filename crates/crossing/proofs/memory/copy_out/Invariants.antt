use Rattle.std.proofs.Common.{◌≡◌, map, ◌++◌, take, drop}
use Rattle.crossing.proofs.memory.copy_out.Given as goal

-- the first values are written, and the places after them are as they were
abbrev pub invariant-loop-i : goal.invariant-loop-i
invariant-loop-i g l = (turned : g.row.T.Denot → g.row.R.Denot) → ((one : g.row.T.Denot) (it : g.row.R.Denot) → g.R.From.from_gives one it → it ≡ turned one) → l.places ≡ map turned (take l.i l.values) ++ drop l.i l.initial.places
