-- 37 of a CC: where each canceled pool has its record's place, fine and even marks with lots alike are distinct pools of whole lots, each 6 lot one live lot.
use Prim.Native.Nat.{ℕ, ◌≤◌, ◌<◌}
use mathlib.Core.Path.{◌≡◌, refl, sym, ap, ◌∙◌}
use mathlib.Core.List.Memᴰ
use mathlib.Core.List.{List, [], map}
use mathlib.Core.Bool.{Bool, true, false, cond, not, ◌&&◌}
use lib.Dec.{eqb}
use Rattle.std.specs.Prelude.{Option, Some, None}
use borrow.Author.Tests.{eq-eqb, eqb-true}
use Rattle.lists.specs.Lists.{tab, keep, all}
use Rattle.lists.proofs.Tests.{◌∈◌, and_left, and_right, both, all_in, all_out, keep_in}
use Rattle.layout.specs.declared.Detail.{Detail}
use Rattle.terminator.specs.Terminators.{is_canceled}
use Rattle.terminator.specs.Lots.{Lot, pools_of, lots, lot_kind, lot_millions, formed_for}
use Rattle.terminator.specs.Groups.{lot_canceled}
use Rattle.book.specs.declared.Pool.{Pool}
use Rattle.book.specs.Records.{Fields, fields_of, kind_number, distinct}
use Rattle.book.specs.Messages.{under}
use Rattle.book.specs.Opening.{records_max}
use Rattle.book.specs.Soundness.{in_order, fields_once}
use Rattle.book.specs.Checks.{is_taken, lot_fields, canceled_lots}
use Rattle.book.proofs.ByRecord.{whole_lots, first_ordinal, one_by_record}
use Rattle.book.proofs.Pools.{flat_pools, flat_canceled}
use Rattle.book.proofs.ListLaws.{alike, keep_member}
use Rattle.check_listed.specs.Marks.{Marked, Entry, entries_from, mark_all, unmarked}
use Rattle.check_listed.specs.Lots.{ordinal_in, last_fits}
use Rattle.check_listed.proofs.Taken.{fields_at, Within, Closed, whole_closed, closed_whole, map_from}
use Rattle.check_listed.proofs.Marking.{mark_at}
use Rattle.check_listed.proofs.Numbered.{numbered, places_in, places_numbered, places_out, places_in_law}
use Rattle.check_listed.proofs.Evenness.{Even}
use Rattle.check_listed.proofs.Exact.{marks_fine, marks_taken_law, marks_closed, closed_marks}
use Rattle.check_listed.proofs.Formed.{canceled_alike, canceled_pools}
use Rattle.check_listed.proofs.Grouped.{canceled_places, entries_places, entries_cc}
use Rattle.check_listed.proofs.Likeness.{one_ordinal, lot_alike, ordinal_out, ordinal_in_law}
use Rattle.check_listed.proofs.OneLot.{Agreed, agree_out, agree_in}
use Rattle.check_listed.proofs.Whole.{Stands, fields_are, places_stand}

in_flat : {d : Detail} {l : Lot} {ls : List Lot} → l ∈ ls → d ∈ pools_of l → d ∈ flat_pools ls
in_flat {d} {l} (Memᴰ.head {x = x} {xs = ls} e) m = Memᴰ.append_left {s = pools_of x} (flat_pools ls) (rw e at m)
in_flat (Memᴰ.tail {x = x} n) m = Memᴰ.append_right (pools_of x) (in_flat n m)

-- the record of each canceled pool stands in its place, and another pool has none
pub record Recorded (f : ℕ → Pool) (place : Detail → ℕ) (its : Detail → Option Pool) : Type 0 where
  pub some : (d : Detail) → is_canceled d ≡ true → its d ≡ Some (f (place d))
  pub none : (d : Detail) → is_canceled d ≡ false → its d ≡ None

module _ (tgt : Option ℕ) (f : ℕ → Pool) (n : ℕ) (order : in_order (tab f n 0) ≡ true) (once : fields_once (tab f n 0) ≡ true) (small : n ≤ records_max)
    (place : Detail → ℕ) (ds : List Detail) (formed : formed_for true ds ≡ true) (stands : (d : Detail) → d ∈ keep is_canceled ds
    → Stands tgt f n place d) where
  abbrev pub cc_marks : Marked
  cc_marks = mark_all unmarked (entries_from true place 1 ds)

  abbrev gs : List (List ℕ)
  gs = map (canceled_places place) (lots ds)

  abbrev listed_fields : List Fields
  listed_fields = map fields_of (keep is_canceled ds)

  marks_are : cc_marks ≡ mark_all unmarked (numbered 1 gs)
  marks_are = ap (mark_all unmarked) (entries_cc place true ds formed)

  places_are : places_in gs ≡ map place (keep is_canceled ds)
  places_are = sym (places_numbered 1 gs) ∙ ap (map (λ (e : Entry). e.place)) (sym (entries_cc place true ds formed)) ∙ entries_places place true 1 ds

  all_within : Within tgt f n order once (map place (keep is_canceled ds))
  all_within = places_stand tgt f n order once place (keep is_canceled ds) stands

  within : (g : List ℕ) → g ∈ gs → Within tgt f n order once g
  within g m p k = all_within p (rw places_are at (places_in_law gs g p m k))

  fields_of_law : map (fields_at tgt f n order once) (places_in gs) ≡ listed_fields
  fields_of_law = ap (map (fields_at tgt f n order once)) places_are ∙ fields_are tgt f n order once place (keep is_canceled ds) stands

  pub cc_fine : cc_marks.fine ≡ distinct listed_fields
  cc_fine = ap (λ (s : Marked). s.fine) marks_are ∙ marks_fine tgt f n order once small gs within ∙ ap distinct fields_of_law

  -- ---- a 6 lot
  module _ (l : Lot) (m : l ∈ lots ds) (canceled : lot_canceled l ≡ true) where
    its_places : canceled_places place l ≡ map place (pools_of l)
    its_places = ap (map place) (canceled_pools true ds formed l m ∙ ap (λ (b : Bool). cond b (pools_of l) []) canceled)

    its_group : map place (pools_of l) ∈ gs
    its_group = rw its_places at (Memᴰ.map (canceled_places place) m)

    its_stand : (d : Detail) → d ∈ pools_of l → Stands tgt f n place d
    its_stand d k = stands d (rw (flat_canceled true ds formed) at (in_flat (keep_member lot_canceled m canceled) k))

    its_within : Within tgt f n order once (map place (pools_of l))
    its_within = places_stand tgt f n order once place (pools_of l) its_stand

    its_fields : map (fields_at tgt f n order once) (map place (pools_of l)) ≡ lot_fields l
    its_fields = fields_are tgt f n order once place (pools_of l) its_stand

  module _ (its : Detail → Option Pool) (are : Recorded f place its) where
    -- one_by_record, by the fields that it is asked of
    abbrev one_by_fields : Lot → List Fields → Bool
    one_by_fields l fs =
        whole_lots tgt fs (tab f n 0)
        && all (λ (r : Pool). eqb r.ordinal (first_ordinal (keep (is_taken tgt fs) (tab f n 0))) &&
        (eqb r.kind (kind_number (lot_kind l)) && eqb r.millions (lot_millions l)))
        (keep (is_taken tgt fs) (tab f n 0))

    ordinal_is : (d : Detail) → is_canceled d ≡ true → ordinal_in (its d) ≡ (f (place d)).ordinal
    ordinal_is d c = ap ordinal_in (are.some d c)

    -- whether the record of its last pool has a lot's kind and millions
    abbrev kind_fits : Lot → Bool
    kind_fits l = eqb (f (place l.last)).kind (kind_number (lot_kind l))

    abbrev millions_fit : Lot → Bool
    millions_fit l = eqb (f (place l.last)).millions (lot_millions l)

    agreed_alike : (l : Lot) → l ∈ lots ds → lot_canceled l ≡ true → Agreed tgt f n order once place l → lot_alike its l ≡ true
    agreed_alike l m c (o, k, q) =
        both (one_ordinal its (pools_of l)) (last_fits l.last (its l.last))
        (ordinal_in_law its (pools_of l) (λ x y a b.
        ordinal_is x (canceled_alike true ds formed l m x a ∙ c) ∙ o x a ∙ sym (ordinal_is y (canceled_alike true ds formed l m y b ∙ c) ∙ o y b)))
        (rw (are.some l.last c) (both (kind_fits l) (millions_fit l) (eq-eqb (f (place l.last)).kind (kind_number (lot_kind l)) k)
        (eq-eqb (f (place l.last)).millions (lot_millions l) q)))

    alike_agreed : (l : Lot) → l ∈ lots ds → lot_canceled l ≡ true → lot_alike its l ≡ true → Agreed tgt f n order once place l
    alike_agreed l m c e =
        let last_in : l.last ∈ pools_of l = Memᴰ.append_right l.middles (Memᴰ.head refl) in
        let o = and_left (one_ordinal its (pools_of l)) (last_fits l.last (its l.last)) e in
        let t = and_right (one_ordinal its (pools_of l)) (last_fits l.last (its l.last)) e in
        let u = rw (are.some l.last c) at t in (
          λ d a. sym (ordinal_is d (canceled_alike true ds formed l m d a ∙ c)) ∙ ordinal_out its (pools_of l) o d l.last a last_in ∙ ordinal_is l.last c,
          eqb-true (f (place l.last)).kind (kind_number (lot_kind l)) (and_left (kind_fits l) (millions_fit l) u),
          eqb-true (f (place l.last)).millions (lot_millions l) (and_right (kind_fits l) (millions_fit l) u),
        )

    -- a lot that is not canceled has no records
    other_alike : (l : Lot) → l ∈ lots ds → lot_canceled l ≡ false → lot_alike its l ≡ true
    other_alike l m c =
        both (one_ordinal its (pools_of l)) (last_fits l.last (its l.last))
        (ordinal_in_law its (pools_of l) (λ x y a b.
        ap ordinal_in (are.none x (canceled_alike true ds formed l m x a ∙ c) ∙ sym (are.none y (canceled_alike true ds formed l m y b ∙ c)))))
        (rw (are.none l.last c))

    module _ (fine : cc_marks.fine ≡ true) where
      fine_there : (mark_all unmarked (numbered 1 gs)).fine ≡ true
      fine_there = ap (λ (s : Marked). s.fine) (sym marks_are) ∙ fine

      pub cc_taken : (i : ℕ) → i < n → eqb (mark_at cc_marks i) 0 ≡ not (is_taken tgt listed_fields (f i))
      cc_taken i h =
          ap (λ (s : Marked). eqb (mark_at s i) 0) marks_are
          ∙ marks_taken_law tgt f n order once small gs within fine_there i h
          ∙ ap (λ (fs : List Fields). not (is_taken tgt fs (f i))) fields_of_law

      module _ (start stop : ℕ) (inside : (i : ℕ) → i < n → under tgt (f i) ≡ true → (start ≤ i) × (i < stop)) (bound : stop ≤ n)
          (even : Bool) (out : even ≡ true
          → Even tgt f n order once start stop (mark_at cc_marks)) (in' : Even tgt f n order once start stop (mark_at cc_marks) → even ≡ true) where
        closed_of : even ≡ true → (g : List ℕ) → g ∈ gs → Closed tgt f n order once g
        closed_of e g m = marks_closed tgt f n order once small gs within fine_there start stop inside bound (rw marks_are at (out e)) g m

        whole_of : even ≡ true → whole_lots tgt listed_fields (tab f n 0) ≡ true
        whole_of e =
            ap (λ (fs : List Fields). whole_lots tgt fs (tab f n 0)) (sym (fields_are tgt f n order once place (keep is_canceled ds) stands))
            ∙ closed_whole tgt f n order once (map place (keep is_canceled ds)) all_within
            (λ i j h k s.
            let (g, a, b) = places_out gs i (rw places_are k) in
            rw places_are at (places_in_law gs g j a (closed_of e g a i j h b s)))

        one_of : even ≡ true → all (lot_alike its) (lots ds) ≡ true → (l : Lot) → l ∈ canceled_lots ds → one_by_record tgt (tab f n 0) l ≡ true
        one_of e a l k =
            let (m, c) = keep_in lot_canceled (lots ds) k in
            ap (one_by_fields l) (sym (its_fields l m c))
            ∙ both (whole_lots tgt (map (fields_at tgt f n order once) (map place (pools_of l))) (tab f n 0)) _
            (closed_whole tgt f n order once (map place (pools_of l)) (its_within l m c) (closed_of e (map place (pools_of l)) (its_group l m c)))
            (agree_in tgt f n order once place l (its_within l m c) (alike_agreed l m c (all_out (lot_alike its) m a)))

        one_by : all (one_by_record tgt (tab f n 0)) (canceled_lots ds) ≡ true → (l : Lot) → l ∈ lots ds → lot_canceled l ≡ true
            → one_by_fields l (map (fields_at tgt f n order once) (map place (pools_of l))) ≡ true
        one_by a l m c = ap (one_by_fields l) (its_fields l m c) ∙ all_out (one_by_record tgt (tab f n 0)) (keep_member lot_canceled m c) a

        even_of : all (one_by_record tgt (tab f n 0)) (canceled_lots ds) ≡ true → even ≡ true
        even_of a = in' (rw marks_are (closed_marks tgt f n order once small gs within fine_there start stop inside bound closed))
          where
            closed : (g : List ℕ) → g ∈ gs → Closed tgt f n order once g
            closed g k = let (l, m, e) = map_from (canceled_places place) (lots ds) g k in by l m e (lot_canceled l) refl
              where
                by : (l : Lot) → l ∈ lots ds → g ≡ canceled_places place l → (b : Bool) → lot_canceled l ≡ b → Closed tgt f n order once g
                by l m e true c =
                    rw (e ∙ its_places l m c) (whole_closed tgt f n order once (map place (pools_of l)) (its_within l m c)
                    (and_left (whole_lots tgt (map (fields_at tgt f n order once) (map place (pools_of l))) (tab f n 0)) _ (one_by a l m c)))
                by l m e false c = λ i j h q s.
                    let z : g ≡ [] = e ∙ ap (map place) (canceled_pools true ds formed l m ∙ ap (λ (b : Bool). cond b (pools_of l) []) c) in
                    absurd (Memᴰ.not-nil (rw z at q))

        alike_of : all (one_by_record tgt (tab f n 0)) (canceled_lots ds) ≡ true → (l : Lot) → l ∈ lots ds → lot_alike its l ≡ true
        alike_of a l m = by (lot_canceled l) refl
          where
            by : (b : Bool) → lot_canceled l ≡ b → lot_alike its l ≡ true
            by true c =
                agreed_alike l m c (agree_out tgt f n order once place l (its_within l m c)
                (and_right (whole_lots tgt (map (fields_at tgt f n order once) (map place (pools_of l))) (tab f n 0)) _ (one_by a l m c)))
            by false c = other_alike l m c

        pub cc_even : (even && all (lot_alike its) (lots ds))
            ≡ (whole_lots tgt listed_fields (tab f n 0) && all (one_by_record tgt (tab f n 0)) (canceled_lots ds))
        cc_even =
            alike (even && all (lot_alike its) (lots ds)) (whole_lots tgt listed_fields (tab f n 0) && all (one_by_record tgt (tab f n 0)) (canceled_lots ds))
            (λ e.
            let v = and_left even (all (lot_alike its) (lots ds)) e in
            both (whole_lots tgt listed_fields (tab f n 0)) (all (one_by_record tgt (tab f n 0)) (canceled_lots ds)) (whole_of v)
            (all_in (one_by_record tgt (tab f n 0)) (canceled_lots ds) (one_of v (and_right even (all (lot_alike its) (lots ds)) e))))
            (λ e.
            let a = and_right (whole_lots tgt listed_fields (tab f n 0)) (all (one_by_record tgt (tab f n 0)) (canceled_lots ds)) e in
            both even (all (lot_alike its) (lots ds)) (even_of a) (all_in (lot_alike its) (lots ds) (alike_of a)))
