-- Digits written into a list from the last, and that a number written is read back.
use Rattle.std.proofs.Common.{◌≡◌, refl, ap, ◌∙◌, ℕ, zero, suc, ◌+◌, ◌-◌, ◌*◌, ◌/◌, ◌%◌, ◌^◌, ◌≤◌, ◌<◌, Bool, true, false, Some, List, [], ◌∷◌, ◌++◌, append_assoc, length, take, drop, set, length-set, length-append, add-one, arith}
use Rattle.std.proofs.Math.Nat.{add-zero}
use Rattle.std.proofs.Math.ListN.{take-append-drop}
use Rattle.std.proofs.Math.Seq.{take-set-le, drop-set-lt, drop-cons, get_or-set_same}
use Rattle.std.proofs.lemmas.Bool.{le-leb}
use Rattle.lists.specs.Lists.{within, part, pasted}
use Rattle.lists.proofs.Parts.{in_within}
use Rattle.lists.proofs.Pasting.{paste_in, paste_out, length_pasted, part_pasted}
use Rattle.fields.specs.Fields.{digits_max, is_digit, number_from, read_number}
use Rattle.output.specs.Output.{digits_of}

pub digits_length : (w v : ℕ) → length (digits_of w v) ≡ w
digits_length zero v = refl
digits_length (suc w) v = length-append (digits_of w (v / 10)) ((48 + v % 10) ∷ []) ∙ rw (digits_length w (v / 10)) (add-one w)

-- ---- the loop that writes digits from the last
-- digits pasted into a list that has them
paste_digits : (out : List ℕ) (at w v : ℕ) → at + w ≤ length out → pasted out at (digits_of w v) ≡ take at out ++ (digits_of w v ++ drop (at + w) out)
paste_digits out at w v h =
    let e : within out at (length (digits_of w v)) ≡ true = rw (digits_length w v) (in_within out at w (omega arith) (omega arith)) in
    paste_in out at (digits_of w v) e ∙ rw (digits_length w v)

drop_set : (out : List ℕ) (i x : ℕ) → i < length out → drop i (set out i x) ≡ x ∷ drop (suc i) out
drop_set out i x h =
    let l : i < length (set out i x) = simp length-set h in
    drop-cons (set out i x) i 0 l ∙ simp (get_or-set_same out i x 0 h, drop-set-lt (suc i) out i x (omega arith))

put_turn : (out : List ℕ) (at w v : ℕ) → at + w < length out → pasted (set out (at + w) (48 + v % 10)) at (digits_of w (v / 10)) ≡ pasted out at (digits_of (suc w) v)
put_turn out at w v h =
    let l : at + w ≤ length (set out (at + w) (48 + v % 10)) = simp length-set (omega arith) in
    let e : at + suc w ≡ suc (at + w) = omega arith in
    let a = paste_digits (set out (at + w) (48 + v % 10)) at w (v / 10) l in
    let b = paste_digits out at (suc w) v (omega arith) in
    rw (a, b) (simp (e, take-set-le at out (at + w) (48 + v % 10) (omega arith), drop_set out (at + w) (48 + v % 10) h, append_assoc))

-- the last digit of the column up to i is written, and those before it are left
pub put_last : (out : List ℕ) (at i v : ℕ) → at < i → i ≤ length out
    → pasted (set out (i - 1) (48 + v % 10)) at (digits_of (i - 1 - at) (v / 10)) ≡ pasted out at (digits_of (i - at) v)
put_last out at i v p h =
    let e : i - 1 ≡ at + (i - 1 - at) = omega arith in
    let f : suc (i - 1 - at) ≡ i - at = omega arith in
    ap (λ (k : ℕ). pasted (set out k (48 + v % 10)) at (digits_of (i - 1 - at) (v / 10))) e
    ∙ put_turn out at (i - 1 - at) v (omega arith)
    ∙ ap (λ (k : ℕ). pasted out at (digits_of k v)) f

-- no digit is left
pub put_none : (out : List ℕ) (at i v : ℕ) → i ≤ at → at ≤ length out → pasted out at (digits_of (i - at) v) ≡ out
put_none out at i v h l =
    let e : i - at ≡ 0 = omega arith in
    ap (λ (k : ℕ). pasted out at (digits_of k v)) e ∙ paste_digits out at 0 v (omega arith) ∙ simp add-zero (take-append-drop at out)

-- digits for which there is no room
pub put_out : (out : List ℕ) (at w v : ℕ) → within out at w ≡ false → out ≡ pasted out at (digits_of w v)
put_out out at w v e = paste_out out at (digits_of w v) (rw (digits_length w v) e)

-- ---- a number that was written is read back, at every width
number_snoc : (n m b : ℕ) (xs : List ℕ) → number_from n xs ≡ Some m → is_digit b ≡ true → number_from n (xs ++ (b ∷ [])) ≡ Some (m * 10 + (b - 48))
number_snoc n m b [] e d = simp d (cc)
number_snoc n m b (x ∷ xs) e d = go (is_digit x) refl (number_snoc (n * 10 + (x - 48)) m b xs)
  where
    go : (t : Bool) → is_digit x ≡ t
        → (number_from (n * 10 + (x - 48)) xs ≡ Some m → is_digit b ≡ true → number_from (n * 10 + (x - 48)) (xs ++ (b ∷ [])) ≡ Some (m * 10 + (b - 48)))
        → number_from n ((x ∷ xs) ++ (b ∷ [])) ≡ Some (m * 10 + (b - 48))
    go true q ih = simp q (ih (simp q at e) d)
    go false q ih = cc

digit_code : (d : ℕ) → d < 10 → is_digit (48 + d) ≡ true
digit_code d h = simp (le-leb 48 (48 + d) (omega arith), le-leb (48 + d) 57 (omega arith))

digits_number : (w v : ℕ) → v < 10 ^ w → number_from 0 (digits_of w v) ≡ Some v
digits_number zero v h = ap Some (omega arith)
digits_number (suc w) v h =
    let l : v / 10 < 10 ^ w = omega arith in
    number_snoc 0 (v / 10) (48 + v % 10) (digits_of w (v / 10)) (digits_number w (v / 10) l) (digit_code (v % 10) (omega arith))
    ∙ ap Some (omega arith)

pub read_written : (out : List ℕ) (at w v : ℕ) → w ≤ digits_max → at ≤ length out → w ≤ length out - at → v < 10 ^ w
    → read_number (pasted out at (digits_of w v)) at w ≡ Some v
unfolding read_number
read_written out at w v d h l s =
    let n : length (pasted out at (digits_of w v)) ≡ length out = length_pasted out at (digits_of w v) in
    let i : within (pasted out at (digits_of w v)) at w ≡ true = in_within (pasted out at (digits_of w v)) at w (omega arith) (omega arith) in
    let p : part (pasted out at (digits_of w v)) at w ≡ digits_of w v = part_pasted out at (digits_of w v) w (digits_length w v) (omega arith) in
    simp (le-leb w digits_max d, i) (rw p (digits_number w v s))
