use Rattle.std.proofs.Common.{◌≡◌, ltb, rules, sym, ap, ◌∙◌}
use borrow.Author.Tests.{tests}
use Rattle.std.specs.List.{find}
use Rattle.std.proofs.lemmas.Iterator.{YieldsList-from_slice}
use Rattle.std.proofs.lemmas.Iterator.Consumers.{YieldsList-from_copied}
use Rattle.std.proofs.lemmas.Iterator.Search.{find_from_yields_List}
use Rattle.std.proofs.lemmas.Iterator.Adapters.{option_map_id}
use Rattle.arrival.specs.Books.{standing_in, held_in}
use Rattle.arrival.specs.Checking.{checked}
use Rattle.arrival.proofs.Scanning.{checked_above}
use Rattle.arrival.proofs.arrival.ArrivalBookBook.after.Goals as goal

pub returns : goal.returns
returns c =
    let b = c.args.self.now in
    let first : c.find.result ≡ find (λ o. ltb c.args.number o.number) (standing_in b) =
    sym (option_map_id _) ∙ find_from_yields_List (λ o. ltb c.args.number o.number) _ _ c.find.result c.find.ensures.ran (YieldsList-from_copied (YieldsList-from_slice (standing_in b) cc)) (λ x r q k. search (rules, tests)) in
    c.as_standing.ensures ∙ ap checked first ∙ checked_above c.args.number (standing_in b) (held_in b).bounded
