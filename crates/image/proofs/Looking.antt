-- A test of all the words of a part, or of all the elements of a table; and one element of those that pass.
use mathlib.Core.Path.{◌≡◌, refl, sym, ap, ◌∙◌}
use mathlib.Core.List.{List, ◌∷◌}
use mathlib.Core.Bool.{Bool, true}
use Prim.Native.Nat.{ℕ, zero, suc, ◌+◌, ◌-◌, ◌≤◌, ◌<◌}
use native.Mathlib.Nat.{add-zero, zero-add}
use native.Mathlib.Omega.{arith}
use native.Mathlib.Decide.{ℕ_discrete}
use lib.ListN.{length, get_or}
use Rattle.lists.specs.Lists.{part, tab, all}
use Rattle.lists.proofs.Parts.{part_zero, part_cons}
use Rattle.lists.proofs.Tables.{get_d_tab}
use Rattle.lists.proofs.Tests.{and_left, and_right, both}

-- ---- a table
-- an element of a table that passes
pub all_at : {A : Type 0} (p : A → Bool) (g : ℕ → A) (n i k : ℕ) → all p (tab g n i) ≡ true → i ≤ k → k < i + n → p (g k) ≡ true
all_at p g zero i k e h l = absurd (omega arith)
all_at p g (suc n) i k e h l = go k h l (and_left (p (g i)) (all p (tab g n (i + 1))) e) (λ m a b. all_at p g n (i + 1) m (and_right (p (g i)) (all p (tab g n (i + 1))) e) a b)
  where
    go : (m : ℕ) → i ≤ m → m < i + suc n → p (g i) ≡ true → ((j : ℕ) → i + 1 ≤ j → j < (i + 1) + n → p (g j) ≡ true) → p (g m) ≡ true
    go m a b q r = by (ℕ_discrete m i)
      where
        by : Dec (m ≡ i) → p (g m) ≡ true
        by (yes x) = rw x q
        by (no x) = r m (omega arith) (omega arith)

-- ---- a part
module _ {A : Type 0} (s : List A) (at : ℕ) (d : A) where
  -- the element i places after at
  abbrev pub after : ℕ → A
  after i = get_or s (at + i) d

  part_from : (n i : ℕ) → at + i + n ≤ length s → part s (at + i) n ≡ tab after n i
  part_from zero i h = part_zero s (at + i)
  part_from (suc n) i h =
      let e : suc (at + i) ≡ at + (i + 1) = omega arith in
      part_cons s (at + i) n d (omega arith) ∙ ap (λ (l : List A). after i ∷ l) (ap (λ (k : ℕ). part s k n) e ∙ part_from n (i + 1) (omega arith))

  -- a part is the table of its elements
  pub part_table : (n : ℕ) → at + n ≤ length s → part s at n ≡ tab after n 0
  part_table n h = ap (λ (k : ℕ). part s k n) (sym (add-zero at)) ∙ part_from n 0 (omega arith)

  -- the elements of a part by index
  pub part_at : (n i : ℕ) → at + n ≤ length s → i < n → get_or (part s at n) i d ≡ after i
  part_at n i h l = ap (λ (x : List A). get_or x i d) (part_table n h) ∙ get_d_tab after n 0 i d l ∙ ap after (zero-add i)

-- ---- a part of a part
pub all_made : {A : Type 0} (p : A → Bool) (g : ℕ → A) (n i : ℕ) → ((k : ℕ) → i ≤ k → k < i + n → p (g k) ≡ true) → all p (tab g n i) ≡ true
all_made p g zero i h = refl
all_made p g (suc n) i h =
    both (p (g i)) (all p (tab g n (i + 1))) (h i (omega arith) (omega arith)) (all_made p g n (i + 1) (λ (k : ℕ) a b. h k (omega arith) (omega arith)))

-- where all of a part pass, all of a part of it do
pub all_within : {A : Type 0} (p : A → Bool) (s : List A) (d : A) (at n k m : ℕ) → all p (part s at n) ≡ true → at + n ≤ length s → at ≤ k → k + m ≤ at + n
    → all p (part s k m) ≡ true
all_within p s d at n k m e h a b =
    ap (all p) (part_table s k d m (omega arith)) ∙ all_made p (after s k d) m 0 each
  where
    each : (j : ℕ) → 0 ≤ j → j < 0 + m → p (after s k d j) ≡ true
    each j u v =
        let f : all p (tab (after s at d) n 0) ≡ true = sym (ap (all p) (part_table s at d n h)) ∙ e in
        let q : at + (k - at + j) ≡ k + j = omega arith in
        ap (λ (x : ℕ). p (get_or s x d)) (sym q) ∙ all_at p (after s at d) n 0 (k - at + j) f (omega arith) (omega arith)
