-- Tests over a table by its places: whether some element passes, and whether a test fails for each element with each later one.
use mathlib.Core.Path.{◌≡◌, refl, ap, ◌∙◌}
use mathlib.Core.List.{List, [], ◌∷◌}
use mathlib.Core.Bool.{Bool, true, false, not, ◌&&◌, ◌||◌, false≢true, and-false}
use Prim.Native.Nat.{ℕ, zero, suc, ◌+◌, ◌≤◌, ◌<◌}
use native.Mathlib.Omega.{arith}
use native.Mathlib.Decide.{ℕ_discrete}
use Rattle.lists.specs.Lists.{tab, any}
use Rattle.book.proofs.ListLaws.{or_left, or_right}

module _ {A : Type 0} (q : A → Bool) (f : ℕ → A) where
  pub none_of : (n i : ℕ) → ((k : ℕ) → i ≤ k → k < i + n → q (f k) ≡ false) → any q (tab f n i) ≡ false
  none_of zero i h = refl
  none_of (suc n) i h = rw (h i (omega arith) (omega arith)) (none_of n (i + 1) (λ (k : ℕ) a b. h k (omega arith) (omega arith)))

  pub some_of : (n i k : ℕ) → i ≤ k → k < i + n → q (f k) ≡ true → any q (tab f n i) ≡ true
  some_of zero i k a b e = absurd (omega arith)
  some_of (suc n) i k a b e = go (ℕ_discrete i k) (λ (h : i + 1 ≤ k). some_of n (i + 1) k h (omega arith) e)
    where
      go : Dec (i ≡ k) → (i + 1 ≤ k → any q (tab f n (i + 1)) ≡ true) → any q (tab f (suc n) i) ≡ true
      go (yes p) below = or_left (q (f i)) (any q (tab f n (i + 1))) (ap (λ (j : ℕ). q (f j)) p ∙ e)
      go (no p) below = or_right (q (f i)) (any q (tab f n (i + 1))) (below (omega arith))

  -- the place of one that passes
  pub place_of : (n i : ℕ) → any q (tab f n i) ≡ true → (k : ℕ) × (i ≤ k) × (k < i + n) × (q (f k) ≡ true)
  place_of zero i e = absurd (false≢true e)
  place_of (suc n) i e = go (q (f i)) refl e (place_of n (i + 1))
    where
      go : (b : Bool) → q (f i) ≡ b → (b || any q (tab f n (i + 1))) ≡ true → (any q (tab f n (i + 1)) ≡ true → (k : ℕ) × (i + 1 ≤ k) × (k < i + 1 + n) × (q (f k) ≡ true))
          → (k : ℕ) × (i ≤ k) × (k < i + suc n) × (q (f k) ≡ true)
      go true p a below = (i, omega arith, omega arith, p)
      go false p a below = let w = below a in (w.0, omega (arith, w.1), omega (arith, w.2), w.3)

module _ {A : Type 0} (p : A → A → Bool) where
  -- no element with a later one passes
  abbrev pub apart : List A → Bool
  apart [] = true
  apart (x ∷ xs) = not (any (p x) xs) && apart xs

  pub apart_all : (f : ℕ → A) (n i : ℕ) → ((k m : ℕ) → i ≤ k → k < m → m < i + n → p (f k) (f m) ≡ false) → apart (tab f n i) ≡ true
  apart_all f zero i h = refl
  apart_all f (suc n) i h =
      rw (none_of (p (f i)) f n (i + 1) (λ (m : ℕ) a b. h i m (omega arith) (omega arith) (omega arith)))
      (apart_all f n (i + 1) (λ (k m : ℕ) a b d. h k m (omega arith) b (omega arith)))

  pub apart_not : (f : ℕ → A) (n i k m : ℕ) → i ≤ k → k < m → m < i + n → p (f k) (f m) ≡ true → apart (tab f n i) ≡ false
  apart_not f zero i k m a b d e = absurd (omega arith)
  apart_not f (suc n) i k m a b d e = go (ℕ_discrete i k) (λ (h : i + 1 ≤ k). apart_not f n (i + 1) k m h b (omega arith) e)
    where
      go : Dec (i ≡ k) → (i + 1 ≤ k → apart (tab f n (i + 1)) ≡ false) → apart (tab f (suc n) i) ≡ false
      go (yes w) below =
          let s : any (p (f i)) (tab f n (i + 1)) ≡ true = some_of (p (f i)) f n (i + 1) m (omega arith) (omega arith) (ap (λ (j : ℕ). p (f j) (f m)) w ∙ e) in
          rw s
      go (no w) below = rw (below (omega arith), and-false)
