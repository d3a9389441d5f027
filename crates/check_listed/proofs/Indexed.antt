-- Records by their index: tests over a table of them, their order, and that no two of a message have equal fields.
use Prim.Native.Nat.{ℕ, zero, suc, ◌+◌, ◌-◌, ◌≤◌, ◌<◌}
use mathlib.Core.Path.{◌≡◌, sym, ap, ◌∙◌}
use mathlib.Core.Logic.{◌⊎◌, inl, inr}
use mathlib.Core.List.Memᴰ
use mathlib.Core.Bool.{Bool, true, not, ◌&&◌}
use native.Mathlib.Omega.{arith}
use native.Mathlib.Decide.{ℕ_discrete, dec_lt}
use lib.Dec.{eqb}
use borrow.Author.Tests.{eq-eqb, not-true}
use Rattle.lists.specs.Lists.{tab, any, all}
use Rattle.lists.proofs.Tests.{◌∈◌, and_left, and_right, both, clash, all_in, all_out, any_in}
use Rattle.book.specs.declared.Pool.{Pool}
use Rattle.book.specs.Records.{Fields, live_fields, same_fields, same_lot}
use Rattle.book.specs.Soundness.{follows, in_order, fields_once}
use Rattle.book.proofs.Targets.{fields_refl}
use Rattle.book.proofs.Ordered.{follows_trans, lot_sym, follows_lot, lot_between}

module _ {A : Type 0} (f : ℕ → A) where
  pub tab_in : (n i k : ℕ) → i ≤ k → k < i + n → f k ∈ tab f n i
  tab_in zero i k h l = absurd (omega arith)
  tab_in (suc n) i k h l = go (ℕ_discrete k i) (λ (g : i + 1 ≤ k). tab_in n (i + 1) k g (omega arith))
    where
      go : Dec (k ≡ i) → (i + 1 ≤ k → f k ∈ tab f n (i + 1)) → f k ∈ tab f (suc n) i
      go (yes e) below = Memᴰ.head (ap f e)
      go (no e) below = Memᴰ.tail (below (omega (arith, e)))

  pub tab_from : (n i : ℕ) (x : A) → x ∈ tab f n i → (k : ℕ) × (i ≤ k) × (k < i + n) × (x ≡ f k)
  tab_from zero i x m = absurd (Memᴰ.not-nil m)
  tab_from (suc n) i x m = go (Memᴰ.cases_cons m) (tab_from n (i + 1) x)
    where
      go : (x ≡ f i) ⊎ (x ∈ tab f n (i + 1)) → (x ∈ tab f n (i + 1) → (k : ℕ) × (i + 1 ≤ k) × (k < i + 1 + n) × (x ≡ f k))
          → (k : ℕ) × (i ≤ k) × (k < i + suc n) × (x ≡ f k)
      go (inl e) below = (i, omega arith, omega arith, e)
      go (inr m') below = let (k, h, l, e) = below m' in (k, omega arith, omega arith, e)

  pub all_each : (p : A → Bool) (n i : ℕ) → all p (tab f n i) ≡ true → (k : ℕ) → i ≤ k → k < i + n → p (f k) ≡ true
  all_each p n i e k h l = all_out p (tab_in n i k h l) e

  pub each_all : (p : A → Bool) (n i : ℕ) → ((k : ℕ) → i ≤ k → k < i + n → p (f k) ≡ true) → all p (tab f n i) ≡ true
  each_all p n i h = all_in p (tab f n i) (λ x m. let (k, g, l, e) = tab_from n i x m in ap p e ∙ h k g l)

-- ---- the live records, from 0 up to n
module _ (f : ℕ → Pool) where
  follows_near : (n i : ℕ) → in_order (tab f n i) ≡ true → (k : ℕ) → i ≤ k → k + 1 < i + n → follows (f k) (f (k + 1)) ≡ true
  follows_near zero i e k h l = absurd (omega arith)
  follows_near (suc zero) i e k h l = absurd (omega arith)
  follows_near (suc (suc n)) i e k h l =
      go (ℕ_discrete k i) (λ (g : i + 1 ≤ k). follows_near (suc n) (i + 1) (and_right (follows (f i) (f (i + 1))) (in_order (tab f (suc n) (i + 1))) e) k g
      (omega arith))
    where
      go : Dec (k ≡ i) → (i + 1 ≤ k → follows (f k) (f (k + 1)) ≡ true) → follows (f k) (f (k + 1)) ≡ true
      go (yes p) below = rw p (and_left (follows (f i) (f (i + 1))) (in_order (tab f (suc n) (i + 1))) e)
      go (no p) below = below (omega (arith, p))

  pub follows_far : (n : ℕ) → in_order (tab f n 0) ≡ true → (i d : ℕ) → i + suc d < n → follows (f i) (f (i + suc d)) ≡ true
  follows_far n e i zero l = follows_near n 0 e i (omega arith) (omega arith)
  follows_far n e i (suc d) l =
      let s : i + suc (suc d) ≡ (i + suc d) + 1 = omega arith in
      rw s (follows_trans (f i) (f (i + suc d)) (f (i + suc d + 1)) (follows_far n e i d (omega arith))
      (follows_near n 0 e (i + suc d) (omega arith) (omega arith)))

  once_apart : (n i : ℕ) → fields_once (tab f n i) ≡ true → (k j : ℕ) → i ≤ k → k < j → j < i + n
      → (eqb (f k).message (f j).message && same_fields (live_fields (f k)) (live_fields (f j))) ≡ true → ⊥
  once_apart zero i e k j h l g c = omega arith
  once_apart (suc n) i e k j h l g c =
      go (ℕ_discrete k i) (λ (q : i + 1 ≤ k). once_apart n (i + 1) (and_right (not here) (fields_once (tab f n (i + 1))) e) k j q l (omega arith) c)
    where
      here : Bool
      here = any (λ (s : Pool). eqb (f i).message s.message && same_fields (live_fields (f i)) (live_fields s)) (tab f n (i + 1))

      go : Dec (k ≡ i) → (i + 1 ≤ k → ⊥) → ⊥
      go (yes p) below =
          clash (any_in (λ (s : Pool). eqb (f i).message s.message && same_fields (live_fields (f i)) (live_fields s))
          (tab_in f n (i + 1) j (omega arith) (omega arith)) (rw p at c))
          (not-true here (and_left (not here) (fields_once (tab f n (i + 1))) e))
      go (no p) below = below (omega (arith, p))

-- ---- sound live records
module _ (f : ℕ → Pool) (n : ℕ) (order : in_order (tab f n 0) ≡ true) (once : fields_once (tab f n 0) ≡ true) where
  follows_of : (i j : ℕ) → i < j → j < n → follows (f i) (f j) ≡ true
  follows_of i j h l =
      let e : i + suc (j - suc i) ≡ j = omega arith in
      ap (λ (k : ℕ). follows (f i) (f k)) (sym e) ∙ follows_far f n order i (j - suc i) (omega arith)

  -- a lot's records follow one another
  pub lot_next : (i j : ℕ) → i < j → j < n → same_lot (f i) (f j) ≡ true → same_lot (f i) (f (i + 1)) ≡ true
  lot_next i j h l s = go (ℕ_discrete (i + 1) j)
    where
      go : Dec (i + 1 ≡ j) → same_lot (f i) (f (i + 1)) ≡ true
      go (yes e) = rw e s
      go (no e) = lot_between (f i) (f (i + 1)) (f j) (follows_of i (i + 1) (omega arith) (omega arith)) (follows_of (i + 1) j (omega (arith, e)) l) s

  pub lot_alike_law : (i j : ℕ) → i < n → j < n → same_lot (f i) (f j) ≡ true → ((f i).kind ≡ (f j).kind) × ((f i).millions ≡ (f j).millions)
  lot_alike_law i j h l s = go (ℕ_discrete i j) (dec_lt i j)
    where
      go : Dec (i ≡ j) → Dec (i < j) → ((f i).kind ≡ (f j).kind) × ((f i).millions ≡ (f j).millions)
      go (yes e) d = (rw e, rw e)
      go (no e) (yes d) = follows_lot (f i) (f j) (follows_of i j d l) s
      go (no e) (no d) =
          let w = follows_lot (f j) (f i) (follows_of j i (omega (arith, e, d)) h) (lot_sym (f i) (f j) s) in
          (sym w.0, sym w.1)

  -- no two records of a message have equal fields
  pub place_once : (i j : ℕ) → i < n → j < n → (f i).message ≡ (f j).message → live_fields (f i) ≡ live_fields (f j) → i ≡ j
  place_once i j h l m e = go (ℕ_discrete i j) (dec_lt i j)
    where
      go : Dec (i ≡ j) → Dec (i < j) → i ≡ j
      go (yes p) d = p
      go (no p) (yes d) =
          absurd (once_apart f n 0 once i j (omega arith) d (omega arith)
          (both (eqb (f i).message (f j).message) (same_fields (live_fields (f i)) (live_fields (f j))) (eq-eqb (f i).message (f j).message m)
          (ap (λ (x : Fields). same_fields x (live_fields (f j))) e ∙ fields_refl (live_fields (f j)))))
      go (no p) (no d) =
          absurd (once_apart f n 0 once j i (omega arith) (omega (arith, p, d)) (omega arith)
          (both (eqb (f j).message (f i).message) (same_fields (live_fields (f j)) (live_fields (f i))) (eq-eqb (f j).message (f i).message (sym m))
          (ap (λ (x : Fields). same_fields (live_fields (f j)) x) e ∙ fields_refl (live_fields (f j)))))
