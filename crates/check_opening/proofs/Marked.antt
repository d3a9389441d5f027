-- Equal IDs have equal marks, so an ID whose mark does not stand among the later marks does not stand among the later IDs.
use mathlib.Core.Path.{◌≡◌, refl, sym, ap, ◌∙◌}
use mathlib.Core.List.{List, [], ◌∷◌, map}
use mathlib.Core.Bool.{Bool, true, false, ◌||◌}
use Prim.Native.Nat.{ℕ, ◌+◌, ◌*◌, ◌^◌, ◌-◌, ◌≤◌, ◌<◌}
use native.Mathlib.Nat.{pow-le-pow_right}
use native.Mathlib.Omega.{arith}
use lib.ListN.{length, get_or, take, drop}
use lib.Dec.{eqb}
use Rattle.std.proofs.lemmas.List.{length-map, get_or-take, get_or-map, drop-take, drop-map}
use borrow.Author.Tests.{eq-eqb}
use Rattle.lists.specs.Lists.{any, same}
use Rattle.lists.proofs.Tests.{same_equal, clash, un_true}
use Rattle.book.proofs.ListLaws.{neither_left}
use Rattle.check_opening.specs.Marks.{mark_base, mark_of}

-- ---- the mark of 16 bytes is a number of 64 bits

-- the bound after i bytes; a byte more keeps to it, for 255 is below 22 * (mark_base - 1)
abbrev pub Room : ℕ → ℕ → Type 0
Room m i = m + 22 ≤ 22 * mark_base ^ i

pub room_fits : (m i : ℕ) → Room m i → i < 16 → m * mark_base + 255 < 2 ^ 64
room_fits m i r h =
    let l : i ≤ 15 = omega arith in
    let p : mark_base ^ i ≤ mark_base ^ 15 = pow-le-pow_right (omega arith) l in
    omega arith

-- ---- marks that are unlike tell IDs apart
neither_right : (a b : Bool) → (a || b) ≡ false → b ≡ false
neither_right true b e = clash refl e
neither_right false b e = e

unmarked : (id : List ℕ) (ids : List (List ℕ)) → any (eqb (mark_of id)) (map mark_of ids) ≡ false → any (same id) ids ≡ false
unmarked id [] e = refl
unmarked id (x ∷ xs) e =
    let a = eqb (mark_of id) (mark_of x) in
    let b = any (eqb (mark_of id)) (map mark_of xs) in
    let u : same id x ≡ false = un_true (same id x) (λ q. clash (eq-eqb (mark_of id) (mark_of x) (ap mark_of (same_equal id x q))) (neither_left a b e)) in
    rw u (unmarked id xs (neither_right a b e))

module _ {A : Type 0} (f : A → List ℕ) (xs : List A) (marks : List ℕ) (whole : take (length xs) marks ≡ map mark_of (map f xs)) where
  -- an ID does not stand among the later ones where its mark does not stand among theirs
  pub unmarked_later : (i : ℕ) (d : A) → i < length xs → any (eqb (get_or marks i 0)) (take (length xs - (i + 1)) (drop (i + 1) marks)) ≡ false
      → any (same (f (get_or xs i d))) (map f (drop (i + 1) xs)) ≡ false
  unmarked_later i d h e =
      let n : (i + 1) + (length xs - (i + 1)) ≡ length xs = omega arith in
      let long : i < length (map f xs) = rw length-map h in
      let here : get_or marks i 0 ≡ mark_of (f (get_or xs i d)) =
      sym (get_or-take (length xs) marks i 0 h) ∙ ap (λ (l : List ℕ). get_or l i 0) whole ∙ get_or-map mark_of (map f xs) i [] 0 long ∙ ap mark_of (get_or-map f xs i d [] h) in
      let later : take (length xs - (i + 1)) (drop (i + 1) marks) ≡ map mark_of (map f (drop (i + 1) xs)) =
      sym (drop-take (i + 1) (length xs - (i + 1)) marks) ∙ ap (λ (m : ℕ). drop (i + 1) (take m marks)) n ∙ ap (drop (i + 1)) whole
      ∙ drop-map mark_of (i + 1) (map f xs) ∙ ap (map mark_of) (drop-map f (i + 1) xs) in
      unmarked (f (get_or xs i d)) (map f (drop (i + 1) xs)) (rw (here, later) at e)
