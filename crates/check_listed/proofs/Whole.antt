-- 37 of a DK: where each pool has its record's place, fine and even marks are distinct pools of whole lots.
use Prim.Native.Nat.{ℕ, ◌≤◌, ◌<◌}
use mathlib.Core.Path.{◌≡◌, refl, sym, ap, ap₂, ◌∙◌}
use mathlib.Core.Logic.{◌⊎◌, inl, inr}
use mathlib.Core.List.Memᴰ
use mathlib.Core.List.{List, [], ◌∷◌, map, append-nil}
use mathlib.Core.Bool.{Bool, true, false, not}
use lib.Dec.{eqb}
use Rattle.std.specs.Prelude.{Option}
use Rattle.lists.specs.Lists.{tab}
use Rattle.lists.proofs.Tests.{◌∈◌}
use Rattle.layout.specs.declared.Detail.{Detail}
use Rattle.book.specs.declared.Pool.{Pool}
use Rattle.book.specs.Records.{Fields, fields_of, live_fields, distinct}
use Rattle.book.specs.Messages.{under}
use Rattle.book.specs.Opening.{records_max}
use Rattle.book.specs.Soundness.{in_order, fields_once}
use Rattle.book.specs.Checks.{is_taken}
use Rattle.book.proofs.ByRecord.{whole_lots}
use Rattle.book.proofs.ListLaws.{alike}
use Rattle.check_listed.specs.Marks.{Marked, entries_from, mark_all, unmarked}
use Rattle.check_listed.proofs.Taken.{fields_at, Within, Closed, whole_closed, closed_whole, map_from}
use Rattle.check_listed.proofs.Marking.{mark_at}
use Rattle.check_listed.proofs.Numbered.{numbered, places_in}
use Rattle.check_listed.proofs.Evenness.{Even}
use Rattle.check_listed.proofs.Exact.{marks_fine, marks_taken_law, marks_closed, closed_marks}
use Rattle.check_listed.proofs.Grouped.{entries_dk}

-- a pool's place is that of its record under the target
abbrev pub Stands : Option ℕ → (ℕ → Pool) → ℕ → (Detail → ℕ) → Detail → Type 0
Stands tgt f n place d = (place d < n) × (under tgt (f (place d)) ≡ true) × (live_fields (f (place d)) ≡ fields_of d)

module _ (tgt : Option ℕ) (f : ℕ → Pool) (n : ℕ) (order : in_order (tab f n 0) ≡ true) (once : fields_once (tab f n 0) ≡ true) (place : Detail → ℕ) where
  pub fields_are : (xs : List Detail) → ((d : Detail) → d ∈ xs → Stands tgt f n place d) → map (fields_at tgt f n order once) (map place xs) ≡ map fields_of xs
  fields_are [] h = refl
  fields_are (x ∷ xs) h = ap₂ (λ (a : Fields) (l : List Fields). a ∷ l) (h x (Memᴰ.head refl)).2 (fields_are xs (λ d m. h d (Memᴰ.tail m)))

  pub places_stand : (xs : List Detail) → ((d : Detail) → d ∈ xs → Stands tgt f n place d) → Within tgt f n order once (map place xs)
  places_stand xs h p m =
      let (d, a, e) = map_from place xs p m in
      let s = h d a in
      (rw e s.0, ap (λ (i : ℕ). under tgt (f i)) e ∙ s.1)

module _ (tgt : Option ℕ) (f : ℕ → Pool) (n : ℕ) (order : in_order (tab f n 0) ≡ true) (once : fields_once (tab f n 0) ≡ true) (small : n ≤ records_max)
    (place : Detail → ℕ) (ds : List Detail) (stands : (d : Detail) → d ∈ ds → Stands tgt f n place d) where
  abbrev pub dk_marks : Marked
  dk_marks = mark_all unmarked (entries_from false place 1 ds)

  abbrev gs : List (List ℕ)
  gs = map place ds ∷ []

  within : (g : List ℕ) → g ∈ gs → Within tgt f n order once g
  within g m = go (Memᴰ.cases_cons m)
    where
      go : (g ≡ map place ds) ⊎ (g ∈ []) → Within tgt f n order once g
      go (inl e) = rw e (places_stand tgt f n order once place ds stands)
      go (inr k) = absurd (Memᴰ.not-nil k)

  marks_are : dk_marks ≡ mark_all unmarked (numbered 1 gs)
  marks_are = ap (mark_all unmarked) (entries_dk place ds)

  fields_of_law : map (fields_at tgt f n order once) (places_in gs) ≡ map fields_of ds
  fields_of_law = ap (map (fields_at tgt f n order once)) (append-nil (map place ds)) ∙ fields_are tgt f n order once place ds stands

  pub dk_fine : dk_marks.fine ≡ distinct (map fields_of ds)
  dk_fine = ap (λ (s : Marked). s.fine) marks_are ∙ marks_fine tgt f n order once small gs within ∙ ap distinct fields_of_law

  module _ (fine : dk_marks.fine ≡ true) where
    fine_there : (mark_all unmarked (numbered 1 gs)).fine ≡ true
    fine_there = ap (λ (s : Marked). s.fine) (sym marks_are) ∙ fine

    pub dk_taken : (i : ℕ) → i < n → eqb (mark_at dk_marks i) 0 ≡ not (is_taken tgt (map fields_of ds) (f i))
    dk_taken i h =
        ap (λ (s : Marked). eqb (mark_at s i) 0) marks_are
        ∙ marks_taken_law tgt f n order once small gs within fine_there i h
        ∙ ap (λ (fs : List Fields). not (is_taken tgt fs (f i))) fields_of_law

    module _ (start stop : ℕ) (inside : (i : ℕ) → i < n → under tgt (f i) ≡ true → (start ≤ i) × (i < stop)) (bound : stop ≤ n)
        (even : Bool) (out : even ≡ true
        → Even tgt f n order once start stop (mark_at dk_marks)) (in' : Even tgt f n order once start stop (mark_at dk_marks) → even ≡ true) where
      pub dk_even : even ≡ whole_lots tgt (map fields_of ds) (tab f n 0)
      dk_even =
          alike even (whole_lots tgt (map fields_of ds) (tab f n 0))
          (λ e. ap (λ (fs : List Fields). whole_lots tgt fs (tab f n 0)) (sym (fields_are tgt f n order once place ds stands))
          ∙ closed_whole tgt f n order once (map place ds) (places_stand tgt f n order once place ds stands)
          (λ i j h k s. marks_closed tgt f n order once small gs within fine_there start stop inside bound (rw marks_are at (out e)) (map place ds)
          (Memᴰ.head refl) i j h k s))
          (λ w. in' (rw marks_are (closed_marks tgt f n order once small gs within fine_there start stop inside bound (closed w))))
        where
          closed : whole_lots tgt (map fields_of ds) (tab f n 0) ≡ true → (g : List ℕ) → g ∈ gs → Closed tgt f n order once g
          closed w g m = go (Memᴰ.cases_cons m)
            where
              go : (g ≡ map place ds) ⊎ (g ∈ []) → Closed tgt f n order once g
              go (inl e) =
                  rw e (whole_closed tgt f n order once (map place ds) (places_stand tgt f n order once place ds stands)
                  (ap (λ (fs : List Fields). whole_lots tgt fs (tab f n 0)) (fields_are tgt f n order once place ds stands) ∙ w))
              go (inr k) = absurd (Memᴰ.not-nil k)
