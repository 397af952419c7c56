-- The declared types of a session and their variants, in one place.
pub use Rattle.model.specs.declared.types.Side.{Side}
pub use Rattle.model.specs.declared.types.Side.TheVariants.{Buy, Sell}
pub use Rattle.model.specs.declared.types.OrderPrice.{OrderPrice}
pub use Rattle.model.specs.declared.types.OrderPrice.TheVariants.{Market, Limit}
pub use Rattle.model.specs.declared.types.Condition.{Condition}
pub use Rattle.model.specs.declared.types.Condition.TheVariants.{Plain, FillOrKill, ImmediateOrCancel}
pub use Rattle.model.specs.declared.types.Entry.{Entry}
pub use Rattle.model.specs.declared.types.Order.{Order}
pub use Rattle.model.specs.declared.types.Point.{Point}
pub use Rattle.model.specs.declared.types.Phase.{Phase}
pub use Rattle.model.specs.declared.types.Phase.TheVariants.{PreOpening, Random, Called, Trading, Closed}
pub use Rattle.model.specs.declared.types.DayState.{DayState}
pub use Rattle.model.specs.declared.types.Refusal.{Refusal}
pub use Rattle.model.specs.declared.types.Refusal.TheVariants.{SettingsOutOfRange, IndicativePrice, BookNotEmpty, WrongPhase, UnknownMember, Quantity, Price, ConditionOutsideTrading, NumbersExhausted, CapacityReached, TapeFull, UnknownOrder, ForeignCalledPrice, ScratchTooShort, AnswersTooShort}
pub use Rattle.model.specs.declared.types.Reason.{Reason}
pub use Rattle.model.specs.declared.types.Reason.TheVariants.{ByMember, AfterAuction, ConditionUnmet, NothingOpposite, AtClose}
pub use Rattle.model.specs.declared.types.TapeRecord.{TapeRecord}
pub use Rattle.model.specs.declared.types.TapeRecord.TheVariants.{Trade, Withdrawal}
pub use Rattle.model.specs.declared.types.Call.{Call}
pub use Rattle.model.specs.declared.types.Call.TheVariants.{Enter, Withdraw, BeginRandom, Auction, Close}
pub use Rattle.model.specs.declared.types.Answer.{Answer}
