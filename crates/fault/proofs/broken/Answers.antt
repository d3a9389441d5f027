-- The rule that is found is the first whose test fails.
use Rattle.std.proofs.Common.{◌≡◌, ℕ, Bool, not, rules}
use Rattle.std.specs.List.{find}
use Rattle.std.specs.Option.{option_map}
use Rattle.std.proofs.lemmas.Iterator.{YieldsList-from_slice}
use Rattle.std.proofs.lemmas.Iterator.Search.{find_from_yields_List}
use borrow.Author.Tests.{tests}
use Rattle.fault.proofs.Found.{found_is}
use Rattle.fault.proofs.broken.Goals as goal

pub returns : goal.returns
returns c =
    let found : option_map (λ x. x.now) c.find.result ≡ find (λ (r : ℕ × Bool). not r.1) c.args.rules.now =
    find_from_yields_List (λ (r : ℕ × Bool). not r.1) _ _ c.find.result c.find.ensures.ran (YieldsList-from_slice c.args.rules.now cc)
    (λ x b q k. search (rules, tests)) in
    let made : c.map.result ≡ option_map (λ (r : ℕ × Bool). record { rule = r.0; place = c.args.place }) (option_map (λ x. x.now) c.find.result) = search rules in
    rw (made, found) (found_is c.args.place c.args.rules.now)
