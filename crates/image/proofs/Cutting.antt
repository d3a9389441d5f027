-- Parts of a list end to end are the list, and lists joined of parts as long as each other are equal only part by part.
use mathlib.Core.Path.{◌≡◌, refl, sym, ap, ◌∙◌}
use mathlib.Core.Bool.{Bool, true, false}
use mathlib.Core.List.{List, ◌++◌}
use Prim.Native.Nat.{ℕ, ◌+◌, ◌≤◌}
use native.Mathlib.Omega.{arith}
use lib.ListN.{length, take, drop, length-append, length-drop, take-append-drop}
use lib.Seq.{take-add, drop-drop, take_all, take-append_seam, drop-append_seam, take_at, drop_at, take-append-le, drop-append-le, length-take-le}
use Rattle.lists.specs.Lists.{within, part, pasted}
use Rattle.lists.proofs.Pasting.{paste_out, paste_in, within_past}

-- a part and the one right after it
pub part_next : {A : Type 0} (s : List A) (at n m : ℕ) → part s at n ++ part s (at + n) m ≡ part s at (n + m)
unfolding part
part_next s at n m = ap (λ (l : List _). take n (drop at s) ++ take m l) (sym (drop-drop n at s)) ∙ sym (take-add n m (drop at s))

pub part_whole : {A : Type 0} (s : List A) (n : ℕ) → length s ≡ n → part s 0 n ≡ s
unfolding part
part_whole s n e = take_all n s (omega arith)

pub two : (a b a' b' : List ℕ) → length b ≡ length b' → a ++ b ≡ a' ++ b' → (a ≡ a') × (b ≡ b')
two a b a' b' l e =
    let n : length a' ≡ length a = omega (arith, length-append a b, length-append a' b', ap length e, l) in (
      sym (take-append_seam a b) ∙ ap (take (length a)) e ∙ take_at a' b' (length a) n,
      sym (drop-append_seam a b) ∙ ap (drop (length a)) e ∙ drop_at a' b' (length a) n,
    )

pub six : (a b c d e f a' b' c' d' e' f' : List ℕ)
    → length b ≡ length b' → length c ≡ length c' → length d ≡ length d' → length e ≡ length e' → length f ≡ length f'
    → a ++ b ++ c ++ d ++ e ++ f ≡ a' ++ b' ++ c' ++ d' ++ e' ++ f'
    → (a ≡ a') × (b ≡ b') × (c ≡ c') × (d ≡ d') × (e ≡ e') × (f ≡ f')
six a b c d e f a' b' c' d' e' f' lb lc ld le lf q =
    let q5 = two (a ++ b ++ c ++ d ++ e) f (a' ++ b' ++ c' ++ d' ++ e') f' lf q in
    let q4 = two (a ++ b ++ c ++ d) e (a' ++ b' ++ c' ++ d') e' le q5.0 in
    let q3 = two (a ++ b ++ c) d (a' ++ b' ++ c') d' ld q4.0 in
    let q2 = two (a ++ b) c (a' ++ b') c' lc q3.0 in
    let q1 = two a b a' b' lb q2.0 in
    (q1.0, q1.1, q2.1, q3.1, q4.1, q5.1)

-- ---- a part of what stands before a paste
part_front : {A : Type 0} (a b : List A) (k n : ℕ) → k + n ≤ length a → part (a ++ b) k n ≡ part a k n
unfolding part
part_front a b k n h =
    let l : k ≤ length a = omega arith in
    let m : n ≤ length (drop k a) = omega (arith, length-drop k a) in
    rw (drop-append-le k a b l) (take-append-le n (drop k a) b m)

pub part_before : {A : Type 0} (out : List A) (at : ℕ) (xs : List A) (k n : ℕ) → k + n ≤ at → part (pasted out at xs) k n ≡ part out k n
part_before out at xs k n h = go (within out at (length xs)) refl
  where
    go : (b : Bool) → within out at (length xs) ≡ b → part (pasted out at xs) k n ≡ part out k n
    go true e =
        let w = within_past out at (length xs) e in
        let l : k + n ≤ length (take at out) = omega (arith, length-take-le at out (omega arith)) in
        ap (λ (s : List _). part s k n) (paste_in out at xs e) ∙ part_front (take at out) (xs ++ drop (at + length xs) out) k n l
        ∙ sym (part_front (take at out) (drop at out) k n l) ∙ ap (λ (s : List _). part s k n) (take-append-drop at out)
    go false e = ap (λ (s : List _). part s k n) (sym (paste_out out at xs e))
