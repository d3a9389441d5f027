-- Numbered lists of the target's places, marked: fine marks are distinct fields, a mark is that of a record taken off, and even marks are whole lots.
use Prim.Native.Nat.{ℕ, ◌≤◌, ◌<◌}
use mathlib.Core.Path.{◌≡◌, refl, sym, ap, ◌∙◌}
use mathlib.Core.Logic.{◌⊎◌, inl, inr}
use mathlib.Core.List.Memᴰ
use mathlib.Core.List.{List, map, map-map}
use mathlib.Core.Bool.{true, not}
use native.Mathlib.Omega.{arith}
use lib.Dec.{eqb}
use lib.ListN.{length, length-replicate}
use borrow.Author.Tests.{eq-eqb, ne_eqb}
use Rattle.std.specs.Prelude.{Option}
use Rattle.lists.specs.Lists.{tab}
use Rattle.lists.proofs.Tests.{◌∈◌, un_true}
use Rattle.book.specs.declared.Pool.{Pool}
use Rattle.book.specs.Records.{Fields, distinct, same_lot}
use Rattle.book.specs.Messages.{under}
use Rattle.book.specs.Opening.{records_max}
use Rattle.book.specs.Soundness.{in_order, fields_once}
use Rattle.book.specs.Checks.{is_taken}
use Rattle.book.proofs.ListLaws.{alike}
use Rattle.rows_find.proofs.Cells.{get_d_zeros}
use Rattle.check_listed.specs.Marks.{Marked, Entry, mark_all, unmarked}
use Rattle.check_listed.proofs.Taken.{fields_at, Within, taken_in, taken_out, same_place}
use Rattle.check_listed.proofs.Marking.{mark_at, mark_from_law, Fits, mark_of_law, fine_distinct, distinct_fine, Apart}
use Rattle.check_listed.proofs.Numbered.{entry, numbered, places_in, places_numbered, list_of, number_of, places_out, places_in_law}
use Rattle.check_listed.proofs.Evenness.{Even, even_closed, closed_even}

none_marked : (i : ℕ) → mark_at unmarked i ≡ 0
unfolding unmarked
none_marked i = get_d_zeros records_max i

pub unmarked_length : length unmarked.marks ≡ records_max
unfolding unmarked
unmarked_length = length-replicate {A = ℕ} records_max 0

unmarked_fine : unmarked.fine ≡ true
unfolding unmarked
unmarked_fine = refl

module _ (tgt : Option ℕ) (f : ℕ → Pool) (n : ℕ) (order : in_order (tab f n 0) ≡ true) (once : fields_once (tab f n 0) ≡ true) (small : n ≤ records_max)
    (gs : List (List ℕ)) (within : (g : List ℕ) → g ∈ gs → Within tgt f n order once g) where
  abbrev pub marks_of : Marked
  marks_of = mark_all unmarked (numbered 1 gs)

  abbrev at : ℕ → Fields
  at = fields_at tgt f n order once

  fits : Fits records_max (numbered 1 gs)
  fits e m =
      let (g, a, r, k, w) = list_of 1 gs e m in
      (omega (arith, (within g a e.place r).0), k)

  pub places_within : Within tgt f n order once (places_in gs)
  places_within p m = let (g, a, b) = places_out gs p m in within g a p b

  apart : Apart records_max at (numbered 1 gs)
  apart e x a b q =
      let (g, c, r, k, w) = list_of 1 gs e a in
      let (h, d, s, j, v) = list_of 1 gs x b in
      let u = within g c e.place r in
      let t = within h d x.place s in
      same_place tgt f n order once e.place x.place u.0 t.0 u.1 t.1 q

  fields_numbered : map (λ (e : Entry). at e.place) (numbered 1 gs) ≡ map at (places_in gs)
  fields_numbered = sym (map-map at (λ (e : Entry). e.place) (numbered 1 gs)) ∙ ap (map at) (places_numbered 1 gs)

  -- fine marks
  pub marks_fine : marks_of.fine ≡ distinct (map at (places_in gs))
  marks_fine =
      alike marks_of.fine (distinct (map at (places_in gs)))
      (λ a. ap distinct (sym fields_numbered) ∙ fine_distinct records_max at unmarked (numbered 1 gs) unmarked_length fits apart a)
      (λ d. distinct_fine records_max at unmarked (numbered 1 gs) unmarked_fine (λ e m. none_marked e.place) (ap distinct fields_numbered ∙ d))

  module _ (fine : marks_of.fine ≡ true) where
    given : (e : Entry) → e ∈ numbered 1 gs → mark_at marks_of e.place ≡ e.lot
    given e m = mark_of_law records_max unmarked (numbered 1 gs) unmarked_length fits fine e m

    from : (i : ℕ) → i < n → (mark_at marks_of i ≡ 0) ⊎ ((e : Entry) × (e ∈ numbered 1 gs) × (e.place ≡ i) × (e.lot ≡ mark_at marks_of i))
    from i h = go (mark_from_law unmarked (numbered 1 gs) i)
      where
        go : (mark_at marks_of i ≡ mark_at unmarked i) ⊎ ((e : Entry) × (e ∈ numbered 1 gs) × (e.place ≡ i) × (e.lot ≡ mark_at marks_of i))
            → (mark_at marks_of i ≡ 0) ⊎ ((e : Entry) × (e ∈ numbered 1 gs) × (e.place ≡ i) × (e.lot ≡ mark_at marks_of i))
        go (inl a) = inl (a ∙ none_marked i)
        go (inr a) = inr a

    -- a record is marked where it is taken off
    pub marks_taken_law : (i : ℕ) → i < n → eqb (mark_at marks_of i) 0 ≡ not (is_taken tgt (map at (places_in gs)) (f i))
    marks_taken_law i h = go (from i h)
      where
        out : mark_at marks_of i ≡ 0 → is_taken tgt (map at (places_in gs)) (f i) ≡ true → ⊥
        out z t =
            let (g, a, b) = places_out gs i (taken_out tgt f n order once (places_in gs) places_within i h t) in
            let (j, k, c, d) = number_of 1 gs g a in
            omega (arith, given (entry j i) (c i b), z, k)

        go : (mark_at marks_of i ≡ 0) ⊎ ((e : Entry) × (e ∈ numbered 1 gs) × (e.place ≡ i) × (e.lot ≡ mark_at marks_of i))
            → eqb (mark_at marks_of i) 0 ≡ not (is_taken tgt (map at (places_in gs)) (f i))
        go (inl z) = eq-eqb (mark_at marks_of i) 0 z ∙ sym (ap not (un_true (is_taken tgt (map at (places_in gs)) (f i)) (out z)))
        go (inr (e, a, r, q)) =
            let (g, b, c, k, w) = list_of 1 gs e a in
            ne_eqb (mark_at marks_of i) 0 (λ z. omega (arith, z, q, k))
            ∙ sym (ap not (taken_in tgt f n order once (places_in gs) places_within i (places_in_law gs g i b (Memᴰ.cast (sym r) c))))

    module _ (start stop : ℕ) (inside : (i : ℕ) → i < n → under tgt (f i) ≡ true → (start ≤ i) × (i < stop)) (bound : stop ≤ n) where
      pub marks_closed : Even tgt f n order once start stop (mark_at marks_of) → (g : List ℕ) → g ∈ gs → (i j : ℕ) → j < n → i ∈ g
          → same_lot (f i) (f j) ≡ true → j ∈ g
      marks_closed e = even_closed tgt f n order once start stop (mark_at marks_of) gs inside bound within given from e

      pub closed_marks : ((g : List ℕ) → g ∈ gs → (i j : ℕ) → j < n → i ∈ g → same_lot (f i) (f j) ≡ true → j ∈ g)
          → Even tgt f n order once start stop (mark_at marks_of)
      closed_marks c = closed_even tgt f n order once start stop (mark_at marks_of) gs inside bound within given from c
