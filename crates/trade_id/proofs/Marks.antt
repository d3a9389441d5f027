-- The place found is that of the first mark: one stands there, and none before it; where none is found, none stands anywhere.
use Rattle.std.proofs.Common.{◌≡◌, refl, ℕ, zero, suc, ◌+◌, ◌≤◌, ◌<◌, true, false, MatchOption, Option, Some, None, List, [], ◌∷◌, length, drop, arith}
use Rattle.trade_id.specs.SpecialInstructions.{begins_with_mark, mark_from, mark_in}

none_from : (place : ℕ) (s : List ℕ) → ((k : ℕ) → k < length s → begins_with_mark (drop k s) ≡ false) → mark_from place s ≡ None
none_from place [] h = refl
none_from place (b ∷ bs) h = rw (h 0 (omega arith)) (none_from (place + 1) bs (λ k l. h (suc k) (omega (arith, l))))

some_from : (place i : ℕ) (s : List ℕ) → i < length s → begins_with_mark (drop i s) ≡ true → ((k : ℕ) → k < i → begins_with_mark (drop k s) ≡ false)
    → mark_from place s ≡ Some (place + i)
some_from place i [] l y n = absurd (omega (arith, l))
some_from place zero (b ∷ bs) l y n = let e : place + 0 ≡ place = omega arith in rw (y, e) refl
some_from place (suc i) (b ∷ bs) l y n =
    let e : place + 1 + i ≡ place + suc i = omega arith in
    rw (n 0 (omega arith), ← e) (some_from (place + 1) i bs (omega (arith, l)) y (λ k m. n (suc k) (omega (arith, m))))

pub first_mark : (s : List ℕ) (r : Option ℕ)
    → MatchOption r ((k : ℕ) → 0 ≤ k → k < length s → begins_with_mark (drop k s) ≡ false)
    (λ i. (0 ≤ i) × (i < length s) × (begins_with_mark (drop i s) ≡ true) × ((k : ℕ) → 0 ≤ k → k < i → begins_with_mark (drop k s) ≡ false))
    → r ≡ mark_in s
unfolding mark_in
first_mark s None h = rw (none_from 0 s (λ k l. h k (omega arith) l)) refl
first_mark s (Some i) h = let e : 0 + i ≡ i = omega arith in rw (some_from 0 i s h.1 h.2 (λ k l. h.3 k (omega arith) l), e) refl
