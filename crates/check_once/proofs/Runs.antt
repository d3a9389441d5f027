-- Records in order: a message's follow one another, so that a record's twin can only stand in its own run.
use mathlib.Core.Path.{◌≡◌, refl, sym, ap, ◌∙◌}
use mathlib.Core.Bool.{Bool, true, false, cond}
use Prim.Native.Nat.{ℕ, zero, suc, ◌+◌, ◌-◌, ◌≤◌, ◌<◌}
use native.Mathlib.Nat.{add-zero}
use native.Mathlib.Omega.{arith}
use native.Mathlib.Decide.{ℕ_discrete, dec_lt}
use lib.Dec.{eqb}
use borrow.Author.Tests.{eqb-true, eqb-false}
use Rattle.lists.specs.Lists.{tab}
use Rattle.lists.proofs.Tests.{and_left, and_right}
use Rattle.book.specs.declared.Pool.{Pool}
use Rattle.book.specs.Soundness.{follows, in_order}
use Rattle.book.proofs.Ordered.{follows_message}

module _ (f : ℕ → Pool) where
  next_message : (n i k : ℕ) → in_order (tab f n i) ≡ true → i ≤ k → suc k < i + n → (f k).message ≤ (f (k + 1)).message
  next_message zero i k e a b = absurd (omega arith)
  next_message (suc zero) i k e a b = absurd (omega arith)
  next_message (suc (suc n)) i k e a b = go (ℕ_discrete i k) (λ (h : i + 1 ≤ k). next_message (suc n) (i + 1) k (and_right (follows (f i) (f (i + 1))) (in_order (tab f (suc n) (i + 1))) e) h (omega arith))
    where
      near : (f i).message ≤ (f (i + 1)).message
      near = follows_message (f i) (f (i + 1)) (and_left (follows (f i) (f (i + 1))) (in_order (tab f (suc n) (i + 1))) e)

      go : Dec (i ≡ k) → (i + 1 ≤ k → (f k).message ≤ (f (k + 1)).message) → (f k).message ≤ (f (k + 1)).message
      go (yes p) below = rw p at near
      go (no p) below = below (omega arith)

  -- message IDs do not fall
  rising : (n : ℕ) → in_order (tab f n 0) ≡ true → (k d : ℕ) → k + d < n → (f k).message ≤ (f (k + d)).message
  rising n e k zero h = rw (add-zero k) (omega arith)
  rising n e k (suc d) h =
      let below : (f k).message ≤ (f (k + d)).message = rising n e k d (omega arith) in
      let near : (f (k + d)).message ≤ (f (k + d + 1)).message = next_message n 0 (k + d) e (omega arith) (omega arith) in
      let w : k + d + 1 ≡ k + suc d = omega arith in
      let last : (f (k + d)).message ≤ (f (k + suc d)).message = rw w at near in
      omega arith

  abbrev pub Rising : ℕ → Type 0
  Rising n = (k m : ℕ) → k ≤ m → m < n → (f k).message ≤ (f m).message

  pub rises : (n : ℕ) → in_order (tab f n 0) ≡ true → Rising n
  rises n e k m a b =
      let w : k + (m - k) ≡ m = omega arith in
      rw w at (rising n e k (m - k) (omega arith))

  -- the first i records: those before start have lower IDs than the others, whose ID is that of the record at start
  pub record Run (start i : ℕ) : Type 0 where
    pub before : start ≤ i
    pub lower : (k : ℕ) → k < start → (f k).message < (f start).message
    pub alike : (k : ℕ) → start ≤ k → k < i → (f k).message ≡ (f start).message

  pub run_none : Run 0 0
  run_none = record { before = omega arith; lower = λ (k : ℕ) h. absurd (omega arith); alike = λ (k : ℕ) a b. absurd (omega arith) }

  -- where the i-th record's run begins
  abbrev pub run_of : ℕ → ℕ → ℕ
  run_of start i = cond (eqb (f i).message (f start).message) start i

  module _ (n start i : ℕ) (up : Rising n) (r : Run start i) (h : i < n) where
    pub run_more : (s : ℕ) → s ≡ run_of start i → Run s (i + 1)
    run_more s e = go (eqb (f i).message (f start).message) refl e
      where
        go : (b : Bool) → eqb (f i).message (f start).message ≡ b → s ≡ cond b start i → Run s (i + 1)
        go true t p =
            let m : (f i).message ≡ (f start).message = eqb-true (f i).message (f start).message t in
            rw p (record { before = omega (arith, r.before); lower = r.lower; alike = λ (k : ℕ) a b. same k a b m (ℕ_discrete k i) })
          where
            same : (k : ℕ) → start ≤ k → k < i + 1 → (f i).message ≡ (f start).message → Dec (k ≡ i) → (f k).message ≡ (f start).message
            same k a b m (yes q) = ap (λ (j : ℕ). (f j).message) q ∙ m
            same k a b m (no q) = r.alike k a (omega arith)
        go false t p =
            rw p (record { before = omega arith; lower = λ (k : ℕ) a. under k a (dec_lt k start); alike = λ (k : ℕ) a b. ap (λ (j : ℕ). (f j).message) (omega arith) })
          where
            less : (f start).message < (f i).message
            less =
                let ne : (f i).message ≡ (f start).message → ⊥ = eqb-false (f i).message (f start).message t in
                let le : (f start).message ≤ (f i).message = up start i r.before h in
                omega arith

            under : (k : ℕ) → k < i → Dec (k < start) → (f k).message < (f i).message
            under k a (yes q) = omega (arith, r.lower k q, less)
            under k a (no q) = omega (arith, r.alike k (omega arith) a, less)

  -- in the run the IDs are the same, before it lower
  pub run_same : (start i k : ℕ) → Run start (i + 1) → start ≤ k → k ≤ i → (f k).message ≡ (f i).message
  run_same start i k r a b = r.alike k a (omega arith) ∙ sym (r.alike i (omega arith) (omega arith))

  pub run_lower : (start i k : ℕ) → Run start (i + 1) → k < start → start ≤ i → (f k).message < (f i).message
  run_lower start i k r a b = omega (arith, r.lower k a, r.alike i b (omega arith))
