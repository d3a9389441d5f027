-- Laws of parts: a loop that goes through a list, or through a part of one, from the front.
use mathlib.Core.Path.{◌≡◌, refl}
use mathlib.Core.List.{List, [], ◌∷◌}
use mathlib.Core.Bool.{true, false, and-false}
use Prim.Native.Nat.{ℕ, suc, ◌+◌, ◌-◌, ◌≤◌, ◌<◌}
use native.Mathlib.Numerals.{add-one}
use native.Mathlib.Omega.{arith}
use lib.ListN.{length, get_or, drop, length-drop}
use lib.Seq.{drop-cons, length-take-le}
use borrow.Author.Tests.{le-leb, lt-leb}
use Rattle.lists.specs.Lists.{within, part}

module _ {A : Type 0} where
  -- what is left at i starts with the element there
  pub drop_turn : (s : List A) (i : ℕ) (d : A) → i < length s → drop i s ≡ get_or s i d ∷ drop (i + 1) s
  drop_turn s i d h = rw (add-one, drop-cons s i d)

  pub part_zero : (s : List A) (at : ℕ) → part s at 0 ≡ []
  unfolding part
  part_zero s at = refl

  pub part_cons : (s : List A) (at n : ℕ) (d : A) → at < length s → part s at (suc n) ≡ get_or s at d ∷ part s (suc at) n
  unfolding part
  part_cons s at n d h = rw (drop-cons s at d)

  pub length_part : (s : List A) (at n : ℕ) → at + n ≤ length s → length (part s at n) ≡ n
  unfolding part
  length_part s at n h = length-take-le n (drop at s) (rw (length-drop at s) (omega arith))

  pub out_past : (s : List A) (at n : ℕ) → length s < at → within s at n ≡ false
  unfolding within
  out_past s at n h = simp (lt-leb at (length s) h)

  pub out_short : (s : List A) (at n : ℕ) → length s - at < n → within s at n ≡ false
  unfolding within
  out_short s at n h = simp (lt-leb n (length s - at) h, and-false)

  pub in_within : (s : List A) (at n : ℕ) → at ≤ length s → n ≤ length s - at → within s at n ≡ true
  unfolding within
  in_within s at n h l = simp (le-leb at (length s) h, le-leb n (length s - at) l)
