-- Laws of a list pasted into another: written from the front, read where it stands, and two pastes end to end.
use mathlib.Core.Path.{◌≡◌, refl, sym, ap, ◌∙◌}
use mathlib.Core.List.{List, [], ◌∷◌, ◌++◌, append_assoc, append-nil}
use mathlib.Core.Bool.{Bool, true, false}
use Prim.Native.Nat.{ℕ, suc, ◌+◌, ◌-◌, ◌≤◌, ◌<◌}
use native.Mathlib.Nat.{add-zero}
use native.Mathlib.Numerals.{add-one}
use native.Mathlib.Omega.{arith}
use lib.ListN.{length, get_or, take, drop, set, length-append, length-drop, take-append-drop, drop_of_length-le}
use lib.Seq.{drop-cons, drop-set-lt, take-suc-set, length-take-le, take_at, drop_at, drop-append-add, drop-drop}
use lib.Dec.{leb}
use borrow.Author.Tests.{leb-true}
use Rattle.lists.specs.Lists.{within, part, pasted}
use Rattle.lists.proofs.Parts.{out_past, out_short, in_within}
use Rattle.lists.proofs.Tests.{and_left, and_right}

module _ {A : Type 0} where
  pub paste_out : (out : List A) (at : ℕ) (xs : List A) → within out at (length xs) ≡ false → out ≡ pasted out at xs
  unfolding pasted
  paste_out out at xs e = simp e

  pub paste_in : (out : List A) (at : ℕ) (xs : List A) → within out at (length xs) ≡ true
      → pasted out at xs ≡ take at out ++ (xs ++ drop (at + length xs) out)
  unfolding pasted
  paste_in out at xs e = simp e

  pub within_past : (s : List A) (at n : ℕ) → within s at n ≡ true → at + n ≤ length s
  unfolding within
  within_past s at n e =
      let a = leb-true at (length s) (and_left (leb at (length s)) (leb n (length s - at)) e) in
      let b = leb-true n (length s - at) (and_right (leb at (length s)) (leb n (length s - at)) e) in
      omega arith

  pub length_pasted : (out : List A) (at : ℕ) (xs : List A) → length (pasted out at xs) ≡ length out
  length_pasted out at xs = go (within out at (length xs)) refl
    where
      go : (b : Bool) → within out at (length xs) ≡ b → length (pasted out at xs) ≡ length out
      go true e =
          let h = within_past out at (length xs) e in
          rw (paste_in out at xs e)
          (simp (length-append, length-drop, length-take-le at out (omega arith)) (omega arith))
      go false e = ap length (sym (paste_out out at xs e))

  -- what was pasted stands there
  pub part_pasted : (out : List A) (at : ℕ) (xs : List A) (n : ℕ) → length xs ≡ n → at + n ≤ length out → part (pasted out at xs) at n ≡ xs
  unfolding part
  part_pasted out at xs n e h =
      let w : within out at (length xs) ≡ true = in_within out at (length xs) (omega arith) (omega arith) in
      rw (paste_in out at xs w)
      (ap (take n) (drop_at (take at out) (xs ++ drop (at + length xs) out) at (length-take-le at out (omega arith)))
      ∙ take_at xs (drop (at + length xs) out) n e)

  -- a whole list pasted over
  pub paste_whole : (out xs : List A) → length xs ≡ length out → pasted out 0 xs ≡ xs
  paste_whole out xs e =
      let w : within out 0 (length xs) ≡ true = in_within out 0 (length xs) (omega arith) (omega arith) in
      let h : length out ≤ 0 + length xs = omega arith in
      paste_in out 0 xs w ∙ rw (drop_of_length-le out h) (append-nil xs)

  -- two pastes end to end are one
  pub paste_more : (out : List A) (at : ℕ) (xs ys : List A) (n : ℕ) → at + length xs ≡ n → n + length ys ≤ length out
      → pasted (pasted out at xs) n ys ≡ pasted out at (xs ++ ys)
  paste_more out at xs ys n e h =
      let w : within out at (length xs) ≡ true = in_within out at (length xs) (omega arith) (omega arith) in
      let l : length (pasted out at xs) ≡ length out = length_pasted out at xs in
      let v : within (pasted out at xs) n (length ys) ≡ true = in_within (pasted out at xs) n (length ys) (omega arith) (omega arith) in
      let y : length (xs ++ ys) ≡ length xs + length ys = length-append xs ys in
      let u : within out at (length (xs ++ ys)) ≡ true = in_within out at (length (xs ++ ys)) (omega arith) (omega arith) in
      let t : length (take at out ++ xs) ≡ n = simp (length-append, length-take-le at out (omega arith)) e in
      let p : pasted out at xs ≡ (take at out ++ xs) ++ drop n out = paste_in out at xs w ∙ rw (e) (sym (append_assoc (take at out) xs (drop n out))) in
      let f : take n (pasted out at xs) ≡ take at out ++ xs = ap (take n) p ∙ take_at (take at out ++ xs) (drop n out) n t in
      let g : drop (n + length ys) (pasted out at xs) ≡ drop (n + length ys) out =
      ap (drop (n + length ys)) p
      ∙ ap (λ (m : ℕ). drop (m + length ys) ((take at out ++ xs) ++ drop n out)) (sym t)
      ∙ drop-append-add (take at out ++ xs) (drop n out) (length ys)
      ∙ drop-drop (length ys) n out in
      let z : at + length (xs ++ ys) ≡ n + length ys = omega arith in
      let a : pasted (pasted out at xs) n ys ≡ (take at out ++ xs) ++ (ys ++ drop (n + length ys) out) = paste_in (pasted out at xs) n ys v ∙ rw (f, g) in
      let b : pasted out at (xs ++ ys) ≡ take at out ++ ((xs ++ ys) ++ drop (n + length ys) out) = paste_in out at (xs ++ ys) u ∙ rw z in
      rw (a, b) (simp append_assoc)

  -- ---- a loop that writes the elements of xs from the front: those written, those left and the rest are the answer
  module _ (o₀ : List A) (at : ℕ) (xs : List A) (n : ℕ) (len : length xs ≡ n) where
    abbrev pub Pasting : List A → ℕ → Type 0
    Pasting o i = take (at + i) o ++ (drop i xs ++ drop (at + n) o) ≡ take at o₀ ++ (xs ++ drop (at + n) o₀)

    pub pasting_none : Pasting o₀ 0
    pasting_none = simp add-zero

    pub pasting_past : length o₀ < at → o₀ ≡ pasted o₀ at xs
    pasting_past h = paste_out o₀ at xs (out_past o₀ at (length xs) h)

    pub pasting_short : length o₀ - at < n → o₀ ≡ pasted o₀ at xs
    pasting_short h = paste_out o₀ at xs (out_short o₀ at (length xs) (omega arith))

    module _ (o : List A) (i : ℕ) (inv : Pasting o i) where
      pub pasting_done : n ≤ i → i ≤ n → at ≤ length o₀ → n ≤ length o₀ - at → o ≡ pasted o₀ at xs
      pasting_done h k a l =
          let e : i ≡ n = omega arith in
          let r : length xs ≤ n = omega arith in
          let d : drop n xs ≡ [] = drop_of_length-le xs r in
          let w : within o₀ at (length xs) ≡ true = in_within o₀ at (length xs) a (omega arith) in
          let p : pasted o₀ at xs ≡ take at o₀ ++ (xs ++ drop (at + n) o₀) = paste_in o₀ at xs w ∙ rw len in
          sym (take-append-drop (at + n) o) ∙ (rw d at (rw e at inv)) ∙ sym p

      pub pasting_more : (x d : A) → get_or xs i d ≡ x → i < n → at + n ≤ length o → Pasting (set o (at + i) x) (i + 1)
      pasting_more x d q h l =
          let e : at + (i + 1) ≡ suc (at + i) = omega arith in
          let g : i < length xs = omega arith in
          let t : take (at + (i + 1)) (set o (at + i) x) ≡ take (at + i) o ++ (x ∷ []) = rw e (take-suc-set o (at + i) x (omega arith)) in
          let f : drop i xs ≡ x ∷ drop (i + 1) xs = rw (← q, add-one, drop-cons xs i d g) in
          rw (t, drop-set-lt (at + n) o (at + i) x (omega arith), append_assoc) (rw f at inv)
