-- Check 19 by a walk: a lot that is begun asks the next pool to go on with it, so the walk's state is all that has to be known of the pools before.
use Rattle.std.proofs.Common.{◌≡◌, refl, ap, ◌∙◌, Option, Some, None, Bool, true, cond, ◌&&◌, List, [], ◌∷◌, is_none, arith}
use borrow.Author.Tests.{tests}
use mathlib.Core.Bool.{and_assoc}
use Rattle.lists.specs.Lists.{fold}
use Rattle.layout.specs.declared.Detail.{Detail}
use Rattle.lots.specs.declared.Begun.{Begun}
use Rattle.lots.specs.declared.Walk.{Walk}
use Rattle.terminator.specs.Terminators.{is_end, term}
use Rattle.terminator.specs.Lots.{goes_on, lots_formed, formed_for}
use Rattle.lots.specs.Walks.{first_of, lot_here, follows, walk_on}

-- what the walk says at the end
abbrev pub ended : Walk → Bool
ended w = w.formed && is_none w.begun

module _ (cc : Bool) where
  -- whether the pools are lots, where a lot is begun or not before them
  abbrev formed_after : Option Begun → List Detail → Bool
  formed_after begun [] = is_none begun
  formed_after begun (d ∷ ds) = follows begun d && lots_formed (first_of cc) (d ∷ ds)

  goes_on_law : (d : Detail) (ds : List Detail)
      → (goes_on d ds && lots_formed (first_of cc) ds) ≡ formed_after (cond (is_end (term d)) None (Some (lot_here d))) ds
  goes_on_law d [] = grind (arith, tests)
  goes_on_law d (x ∷ xs) = grind (arith, tests)

  walked : (w : Walk) (ds : List Detail) → ended (fold (walk_on cc) w ds) ≡ (w.formed && formed_after w.begun ds)
  walked w [] = refl
  walked w (x ∷ xs) = walked (walk_on cc w x) xs ∙ rw (← goes_on_law x xs) (simp and_assoc)

  formed_begun : (ds : List Detail) → formed_after None ds ≡ formed_for cc ds
  unfolding formed_for
  formed_begun [] = refl
  formed_begun (d ∷ ds) = refl

  -- before the first pool no lot is begun, and at the end nothing is left
  pub formed_end : (w : Walk) (left ds : List Detail) → left ≡ []
      → fold (walk_on cc) w left ≡ fold (walk_on cc) (record { formed = true; begun = None }) ds → ended w ≡ formed_for cc ds
  formed_end w left ds e inv = ap ended (rw e at inv) ∙ walked (record { formed = true; begun = None }) ds ∙ formed_begun ds
