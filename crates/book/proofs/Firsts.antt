-- The first failing check of lists that are looked at one after the other.
use mathlib.Core.Path.{◌≡◌, refl, ap, sym, ◌∙◌}
use mathlib.Core.List.{List, [], ◌∷◌, ◌++◌}
use mathlib.Core.Bool.{Bool, true, false, cond, false≢true}
use Rattle.lists.specs.Lists.{all}
use Rattle.lists.proofs.Tests.{and_left, and_right}
use Rattle.book.specs.declared.Reason.{Reason}
use Rattle.book.specs.Reasons.{Verdict}
use Rattle.std.specs.Prelude.{Ok, Err}
use Rattle.book.specs.Checks.{Call, Check, fails_in, first_failing}

abbrev passing : Verdict → Bool
passing (Ok u) = true
passing (Err r) = false

-- a verdict is one or the other
pub fails_not : {A : Type 0} {r : Reason} → ◌≡◌ {A = Verdict} (Err r) (Ok tt) → A
fails_not e = absurd (false≢true (ap passing e))

module _ (c : Call) where
  -- where all of the first list pass, the second decides
  pub first_late : (ks js : List Check) → first_failing ks c ≡ Ok tt → first_failing (ks ++ js) c ≡ first_failing js c
  first_late [] js e = refl
  first_late (k ∷ ks) js e = go (fails_in k c) e (first_late ks js)
    where
      go : (f : Bool) → cond f (Err k.reason) (first_failing ks c) ≡ Ok tt
          → (first_failing ks c ≡ Ok tt → first_failing (ks ++ js) c ≡ first_failing js c)
          → cond f (Err k.reason) (first_failing (ks ++ js) c) ≡ first_failing js c
      go true h below = fails_not h
      go false h below = below h

  -- one of the first list that fails decides
  pub first_early : (ks js : List Check) (r : Reason) → first_failing ks c ≡ Err r → first_failing (ks ++ js) c ≡ Err r
  first_early [] js r e = fails_not (sym e)
  first_early (k ∷ ks) js r e = go (fails_in k c) e (first_early ks js r)
    where
      go : (f : Bool) → cond f (Err k.reason) (first_failing ks c) ≡ Err r
          → (first_failing ks c ≡ Err r → first_failing (ks ++ js) c ≡ Err r)
          → cond f (Err k.reason) (first_failing (ks ++ js) c) ≡ Err r
      go true h below = h
      go false h below = below h

-- a reason that the checks of a list give passes a test that all of theirs pass
pub first_among : (p : Reason → Bool) (c : Call) (ks : List Check) (r : Reason) → all (λ (k : Check). p k.reason) ks ≡ true → first_failing ks c ≡ Err r → p r ≡ true
first_among p c [] r a e = fails_not (sym e)
first_among p c (k ∷ ks) r a e = go (fails_in k c) e (first_among p c ks r (and_right (p k.reason) _ a))
  where
    same_reason : (q : Reason) → ◌≡◌ {A = Verdict} (Err q) (Err r) → q ≡ r
    same_reason q h = cc

    go : (f : Bool) → cond f (Err k.reason) (first_failing ks c) ≡ Err r → (first_failing ks c ≡ Err r → p r ≡ true) → p r ≡ true
    go true h below = ap p (sym (same_reason k.reason h)) ∙ and_left (p k.reason) _ a
    go false h below = below h
