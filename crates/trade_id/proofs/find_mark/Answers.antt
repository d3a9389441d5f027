-- The first place of the range at which a mark stands.
use Rattle.std.proofs.Common.{rules, ◌≡◌, true, false, drop}
use Rattle.std.proofs.lemmas.Iterator.{first_from_Range}
use Rattle.trade_id.specs.SpecialInstructions.{begins_with_mark}
use Rattle.trade_id.proofs.Marks.{first_mark}
use Rattle.trade_id.proofs.find_mark.Goals as goal

pub returns-clause-first : goal.returns-clause-first
returns-clause-first c =
    let s = c.args.special.now in
    first_mark s _
    (first_from_Range _ _ _ _ (λ i. begins_with_mark (drop i s) ≡ true) (λ i. begins_with_mark (drop i s) ≡ false) c.find.ensures.ran (λ x q k. search rules) (λ x q k. search rules))
