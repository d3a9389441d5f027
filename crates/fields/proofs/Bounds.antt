-- The value of so many digits is below ten to that many.
use Rattle.std.proofs.Common.{◌≡◌, refl, ap, ℕ, suc, ◌+◌, ◌-◌, ◌*◌, ◌^◌, ◌≤◌, ◌<◌, Bool, true, false, cond, ◌&&◌, List, [], ◌∷◌, None, unwrap_or, length, leb, arith}
use Rattle.std.proofs.Math.Nat.{mul-le-mul_right, one-le-pow, pow-le-pow_right}
use Rattle.std.proofs.lemmas.Bool.{leb-true}
use Rattle.lists.specs.Lists.{within, part}
use Rattle.lists.proofs.Parts.{length_part}
use Rattle.lists.proofs.Pasting.{within_past}
use Rattle.lists.proofs.Tests.{and_right}
use Rattle.fields.specs.Fields.{digits_max, is_digit, number_from, read_number}

-- fewer than digits_max digits leave room for one more
pub below_ten : (i : ℕ) → i < digits_max → 10 ^ i ≤ 10 ^ 18
below_ten i h = let l : i ≤ 18 = omega arith in pow-le-pow_right (omega arith) l

from_below : (n : ℕ) (xs : List ℕ) → unwrap_or (number_from n xs) 0 < (n + 1) * 10 ^ length xs
from_below n [] = omega arith
from_below n (x ∷ xs) = go (is_digit x) refl (from_below (n * 10 + (x - 48)) xs)
  where
    go : (b : Bool) → is_digit x ≡ b → unwrap_or (number_from (n * 10 + (x - 48)) xs) 0 < (n * 10 + (x - 48) + 1) * 10 ^ length xs
        → unwrap_or (cond b (number_from (n * 10 + (x - 48)) xs) None) 0 < (n + 1) * 10 ^ suc (length xs)
    go true e h =
        let d = leb-true x 57 (and_right (leb 48 x) (leb x 57) e) in
        let m : n * 10 + (x - 48) + 1 ≤ (n + 1) * 10 = omega arith in
        let p : 10 * 10 ^ length xs ≡ 10 ^ suc (length xs) = omega arith in
        omega (arith, h, mul-le-mul_right (10 ^ length xs) m, ap (λ (z : ℕ). (n + 1) * z) p)
    go false e h = omega (arith, one-le-pow (suc (length xs)) 10 (omega arith))

pub read_below : (s : List ℕ) (at width : ℕ) → unwrap_or (read_number s at width) 0 < 10 ^ width
unfolding read_number
read_below s at width = go (leb width digits_max) (within s at width) refl
  where
    go : (w i : Bool) → within s at width ≡ i → unwrap_or (cond (w && i) (number_from 0 (part s at width)) None) 0 < 10 ^ width
    go false i e = one-le-pow width 10 (omega arith)
    go true false e = one-le-pow width 10 (omega arith)
    go true true e =
        let l : length (part s at width) ≡ width = length_part s at width (within_past s at width e) in
        omega (arith, rw l at (from_below 0 (part s at width)))
