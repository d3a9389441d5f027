-- Cells of an array, filled one after another, and tests over lists that are made by a function of the index.
use mathlib.Core.Path.{◌≡◌, refl, sym, ap, ◌∙◌}
use mathlib.Core.List.{List, ◌∷◌}
use mathlib.Core.Bool.{Bool, true, false, cond, ◌&&◌, ◌||◌}
use Prim.Native.Nat.{ℕ, zero, suc, ◌+◌, ◌≤◌, ◌<◌}
use native.Mathlib.Decide.{ℕ_discrete}
use native.Mathlib.Omega.{arith}
use lib.ListN.{length, get_or, set, replicate}
use lib.Seq.{get_or-set_same, get_or-set_other}
use Rattle.lists.specs.Lists.{tab, keep, any, all}
use Rattle.lists.proofs.Tests.{both, clash}
use Rattle.book.proofs.ListLaws.{or_left, or_right}

pub get_d_zeros : (n i : ℕ) → get_or {A = ℕ} (replicate n 0) i 0 ≡ 0
get_d_zeros zero i = refl
get_d_zeros (suc n) zero = refl
get_d_zeros (suc n) (suc i) = get_d_zeros n i

-- ---- cells
-- the first d cells are filled: the cell of each index that is listed holds a number from start up to stop that fits it; every other cell is 0
module _ (ok : ℕ → Bool) (fits : ℕ → ℕ → Bool) (start stop : ℕ) where
  pub record Filled (at : List ℕ) (d : ℕ) : Type 0 where
    pub rows : (e : ℕ) → e < d → ok e ≡ true → (start ≤ get_or at e 0) × (get_or at e 0 < stop) × (fits e (get_or at e 0) ≡ true)
    pub others : (e : ℕ) → e < d → ok e ≡ false → get_or at e 0 ≡ 0
    pub past : (e : ℕ) → d ≤ e → get_or at e 0 ≡ 0

  pub filled_none : (n : ℕ) → Filled (replicate n 0) 0
  filled_none n = record { rows = λ e h. absurd (omega (arith, h)); others = λ e h. absurd (omega (arith, h)); past = λ e h. get_d_zeros n e }

  module _ (at : List ℕ) (d : ℕ) (inv : Filled at d) where
    pub filled_more : d < length at → ok d ≡ true → (j : ℕ) → start ≤ j → j < stop → fits d j ≡ true → Filled (set at d j) (d + 1)
    filled_more w o j a b f =
        record {
          rows = λ e h k. rest e h k (ℕ_discrete e d);
          others = λ e h k. other e h k (ℕ_discrete e d);
          past = λ e h. get_or-set_other at d e j 0 (λ p. absurd (omega (arith, h, p))) ∙ inv.past e (omega (arith, h));
        }
      where
        here : get_or (set at d j) d 0 ≡ j
        here = get_or-set_same at d j 0 w

        rest : (e : ℕ) → e < d + 1 → ok e ≡ true → Dec (e ≡ d)
            → (start ≤ get_or (set at d j) e 0) × (get_or (set at d j) e 0 < stop) × (fits e (get_or (set at d j) e 0) ≡ true)
        rest e h k (yes p) = rw p (rw (get_or-set_same at d j 0 w) (a, b, f))
        rest e h k (no p) = rw (get_or-set_other at d e j 0 p) (inv.rows e (omega (arith, h, p)) k)

        other : (e : ℕ) → e < d + 1 → ok e ≡ false → Dec (e ≡ d) → get_or (set at d j) e 0 ≡ 0
        other e h k (yes p) = clash o (ap ok (sym p) ∙ k)
        other e h k (no p) = get_or-set_other at d e j 0 p ∙ inv.others e (omega (arith, h, p)) k

-- ---- tests over f i, f (i + 1) and so on
module _ {A : Type 0} (p : A → Bool) (f : ℕ → A) where
  pub any_tab_in : (n i e : ℕ) → i ≤ e → e < i + n → p (f e) ≡ true → any p (tab f n i) ≡ true
  any_tab_in zero i e h l t = absurd (omega arith)
  any_tab_in (suc n) i e h l t = go (ℕ_discrete i e) (λ (k : i + 1 ≤ e). any_tab_in n (i + 1) e k (omega (arith, l)) t)
    where
      go : Dec (i ≡ e) → (i + 1 ≤ e → any p (tab f n (i + 1)) ≡ true) → (p (f i) || any p (tab f n (i + 1))) ≡ true
      go (yes q) below = or_left (p (f i)) (any p (tab f n (i + 1))) (ap (λ (k : ℕ). p (f k)) q ∙ t)
      go (no q) below = or_right (p (f i)) (any p (tab f n (i + 1))) (below (omega (arith, h, q)))

  pub any_tab_out : (n i : ℕ) → ((e : ℕ) → i ≤ e → e < i + n → p (f e) ≡ false) → any p (tab f n i) ≡ false
  any_tab_out zero i h = refl
  any_tab_out (suc n) i h = rw (h i (omega arith) (omega arith)) (any_tab_out n (i + 1) (λ (e : ℕ) a b. h e (omega (arith, a)) (omega (arith, b))))

  module _ (ok : A → Bool) where
    pub all_kept_in : (n i : ℕ) → ((e : ℕ) → i ≤ e → e < i + n → ok (f e) ≡ true → p (f e) ≡ true) → all p (keep ok (tab f n i)) ≡ true
    all_kept_in zero i h = refl
    all_kept_in (suc n) i h = go (ok (f i)) refl (all_kept_in n (i + 1) (λ (e : ℕ) a b. h e (omega (arith, a)) (omega (arith, b))))
      where
        go : (b : Bool) → ok (f i) ≡ b → all p (keep ok (tab f n (i + 1))) ≡ true
            → all p (cond b (f i ∷ keep ok (tab f n (i + 1))) (keep ok (tab f n (i + 1)))) ≡ true
        go true o t = both (p (f i)) (all p (keep ok (tab f n (i + 1)))) (h i (omega arith) (omega arith) o) t
        go false o t = t

    pub all_kept_out : (n i e : ℕ) → i ≤ e → e < i + n → ok (f e) ≡ true → p (f e) ≡ false → all p (keep ok (tab f n i)) ≡ false
    all_kept_out zero i e h l o t = absurd (omega arith)
    all_kept_out (suc n) i e h l o t = go (ℕ_discrete i e) (ok (f i)) refl (λ (k : i + 1 ≤ e). all_kept_out n (i + 1) e k (omega (arith, l)) o t)
      where
        go : Dec (i ≡ e) → (b : Bool) → ok (f i) ≡ b → (i + 1 ≤ e → all p (keep ok (tab f n (i + 1))) ≡ false)
            → all p (cond b (f i ∷ keep ok (tab f n (i + 1))) (keep ok (tab f n (i + 1)))) ≡ false
        go (yes q) true u below = rw (ap (λ (k : ℕ). p (f k)) q ∙ t)
        go (yes q) false u below = clash o (ap (λ (k : ℕ). ok (f k)) (sym q) ∙ u)
        go (no q) true u below = fails (p (f i)) (below (omega (arith, h, q)))
          where
            fails : (c : Bool) {a : Bool} → a ≡ false → (c && a) ≡ false
            fails true e = e
            fails false e = refl
        go (no q) false u below = below (omega (arith, h, q))
