-- The reason that a number names.
use Rattle.std.proofs.Common.{◌≡◌, ℕ, ◌≤◌, Result, Ok, Err, refl, sym, arith}
use Rattle.std.specs.Result.{result_unwrap_or}
use Rattle.std.proofs.lemmas.Grind.{common_steps}
use Rattle.model.specs.declared.types.Reason.{Reason}
use Rattle.model.specs.declared.types.Reason.TheVariants.{ByMember, AfterAuction, ConditionUnmet, NothingOpposite, AtClose}
use Rattle.model.specs.declared.codes.UnknownNumber.{UnknownNumber}
use Rattle.model.specs.Numbers.{reason_code}
use Rattle.model.specs.Decoding.{NamesReason}
use Rattle.crossing.specs.Turning.{reason_of}

-- the reason with a number is read from it
named : (r : Reason) (n : ℕ) → reason_code r ≡ n → reason_of n ≡ r
named ByMember n e = rw (sym e) refl
named AfterAuction n e = rw (sym e) refl
named ConditionUnmet n e = rw (sym e) refl
named NothingOpposite n e = rw (sym e) refl
named AtClose n e = rw (sym e) refl

-- a number above theirs is read as the close
pub above : (n : ℕ) → 6 ≤ n → reason_of n ≡ AtClose
above n l = grind (arith, common_steps)

-- and so is one that no reason has
unnamed : (n : ℕ) → ((r : Reason) → reason_code r ≡ n → ⊥) → reason_of n ≡ AtClose
unnamed n h =
    let a : 1 ≡ n → ⊥ = h ByMember in
    let b : 2 ≡ n → ⊥ = h AfterAuction in
    let c : 3 ≡ n → ⊥ = h ConditionUnmet in
    let d : 4 ≡ n → ⊥ = h NothingOpposite in
    grind (arith, common_steps)

-- a number that may name a reason is read as that reason, or as the close
pub read : (n : ℕ) (r : Result Reason UnknownNumber) → NamesReason n r → result_unwrap_or r AtClose ≡ reason_of n
read n (Ok reason) h = sym (named reason n h)
read n (Err e) h = sym (unnamed n h.1)
