-- The new pools of a message that passes 19: every pool of an ON, and the pools of a CC that 22 counts.
use mathlib.Core.Path.{◌≡◌, refl, ap}
use mathlib.Core.List.{List, [], ◌∷◌}
use mathlib.Core.Bool.{Bool, true, false, not, ◌&&◌}
use Prim.Native.Nat.{ℕ}
use native.Mathlib.Omega.{arith}
use lib.Dec.{eqb}
use lib.ListN.{length}
use borrow.Author.Tests.{tests, eqb-true}
use Rattle.lists.specs.Lists.{keep}
use Rattle.lists.proofs.Tests.{and_right}
use Rattle.layout.specs.declared.Detail.{Detail}
use Rattle.terminator.specs.Terminators.{digit_new, digit_canceled, digit_replacement, is_wrong, one, term, is_replacement}
use Rattle.terminator.specs.Lots.{goes_on, lots_formed, first_on, first_cc, formed_for, replacement_count}
use Rattle.faces.specs.Faces.{is_new, new_pools}

module _ (first : ℕ → Bool) (d : Detail) (ds : List Detail) (f : lots_formed first (d ∷ ds) ≡ true) where
  -- 19 of the first pool's position one, and of the others
  begins : first (one d) ≡ true
  begins = grind (arith, tests)

  goes : lots_formed first ds ≡ true
  goes = and_right ((first (one d) && not (is_wrong (term d))) && goes_on d ds) (lots_formed first ds) f

new_on : (ds : List Detail) → lots_formed first_on ds ≡ true → keep is_new ds ≡ ds
new_on [] f = refl
new_on (d ∷ ds) f = rw (eqb-true (one d) digit_new (begins first_on d ds f)) (ap (λ (xs : List Detail). d ∷ xs) (new_on ds (goes first_on d ds f)))

pub on_new : (ds : List Detail) → formed_for false ds ≡ true → new_pools ds ≡ ds
unfolding formed_for
on_new ds f = new_on ds f

either : (n : ℕ) → first_cc n ≡ true → eqb n digit_replacement ≡ not (eqb n digit_canceled)
either n e = grind (arith, tests)

new_cc : (ds : List Detail) → lots_formed first_cc ds ≡ true → keep is_replacement ds ≡ keep is_new ds
new_cc [] f = refl
new_cc (d ∷ ds) f = rw (either (one d) (begins first_cc d ds f), new_cc ds (goes first_cc d ds f))

pub cc_new : (ds : List Detail) → formed_for true ds ≡ true → replacement_count ds ≡ length (new_pools ds)
unfolding formed_for replacement_count
cc_new ds f = ap length (new_cc ds f)
