-- A test that computes to true at every number of a table holds at each of them.
use mathlib.Core.Path.{◌≡◌, ◌∙◌, ap, sym}
use mathlib.Core.Bool.{Bool, true}
use Prim.Native.Nat.{ℕ, zero, suc, ◌+◌, ◌<◌}
use native.Mathlib.Nat.{add-zero}
use native.Mathlib.Omega.{arith}
use Rattle.lists.specs.Lists.{tab, all}
use Rattle.lists.proofs.Tests.{and_left, and_right}

-- the numbers below n pass a test
abbrev pub all_below : (ℕ → Bool) → ℕ → Bool
all_below p n = all p (tab (λ (k : ℕ). k) n 0)

module _ (p : ℕ → Bool) where
  from : (n i : ℕ) → all p (tab (λ (k : ℕ). k) n i) ≡ true → (k : ℕ) → k < n → p (k + i) ≡ true
  from zero i e k h = absurd (omega arith)
  from (suc n) i e zero h =
      let z : 0 + i ≡ i = omega arith in
      ap p z ∙ and_left (p i) (all p (tab (λ (k : ℕ). k) n (i + 1))) e
  from (suc n) i e (suc k) h =
      let z : suc k + i ≡ k + (i + 1) = omega arith in
      ap p z ∙ from n (i + 1) (and_right (p i) (all p (tab (λ (k : ℕ). k) n (i + 1))) e) k (omega arith)

  pub below : (n : ℕ) → all_below p n ≡ true → (k : ℕ) → k < n → p k ≡ true
  below n e k h = ap p (sym (add-zero k)) ∙ from n 0 e k h
