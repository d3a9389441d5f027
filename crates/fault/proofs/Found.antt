-- The rule that is found among some is the first of them whose test fails.
use mathlib.Core.Path.{◌≡◌, refl, sym}
use mathlib.Core.List.{List, [], ◌∷◌, map}
use mathlib.Core.Bool.{Bool, true, false, not}
use Prim.Native.Nat.{ℕ}
use Rattle.std.specs.List.{find}
use Rattle.std.specs.Option.{option_map}
use Rattle.std.proofs.lemmas.List.Folds.{fold_stays}
use Rattle.fault.specs.Rules.{test, first, or_else}
use Rattle.std.specs.Prelude.{Some}

pub found_is : (place : ℕ) (rules : List (ℕ × Bool)) → option_map (λ (r : ℕ × Bool). record { rule = r.0; place = place }) (find (λ r. not r.1) rules) ≡ first (map (λ (r : ℕ × Bool). test r.0 place r.1) rules)
unfolding test
found_is place [] = refl
found_is place ((n, true) ∷ rules) = found_is place rules
found_is place ((n, false) ∷ rules) = sym (fold_stays or_else (Some (record { rule = n; place = place })) (λ f. refl) (map (λ (r : ℕ × Bool). test r.0 place r.1) rules))
