-- A 6 lot's records are of one live lot of its kind and millions exactly if all have one ordinal and the last pool's has that kind and those millions.
use Prim.Native.Nat.{ℕ, ◌<◌}
use mathlib.Core.Path.{◌≡◌, refl, sym, ap, ◌∙◌}
use mathlib.Core.List.Memᴰ
use mathlib.Core.List.{List, [], ◌∷◌, map}
use mathlib.Core.Bool.{Bool, true, ◌&&◌}
use native.Mathlib.Omega.{arith}
use lib.Dec.{eqb}
use borrow.Author.Tests.{eq-eqb, eqb-true}
use Rattle.std.specs.Prelude.{Option}
use Rattle.lists.specs.Lists.{tab, keep, all}
use Rattle.lists.proofs.Tests.{◌∈◌, and_left, and_right, both, all_in, all_out, keep_in}
use Rattle.layout.specs.declared.Detail.{Detail}
use Rattle.terminator.specs.Lots.{Lot, pools_of, lot_kind, lot_millions}
use Rattle.book.specs.declared.Pool.{Pool}
use Rattle.book.specs.Records.{kind_number}
use Rattle.book.specs.Soundness.{in_order, fields_once}
use Rattle.book.specs.Checks.{is_taken}
use Rattle.book.proofs.ByRecord.{first_ordinal}
use Rattle.book.proofs.Ordered.{is_lot_law}
use Rattle.book.proofs.ListLaws.{keep_member}
use Rattle.book.proofs.Targets.{under_one}
use Rattle.check_listed.proofs.Indexed.{tab_in, tab_from, lot_alike_law}
use Rattle.check_listed.proofs.Taken.{fields_at, Within, taken_in, taken_out, map_from}

first_of : (x : Pool) (xs : List Pool) → x ∈ xs → (y : Pool) × (y ∈ xs) × (first_ordinal xs ≡ y.ordinal)
first_of x [] m = absurd (Memᴰ.not-nil m)
first_of x (y ∷ ys) m = (y, Memᴰ.head refl, refl)

module _ (tgt : Option ℕ) (f : ℕ → Pool) (n : ℕ) (order : in_order (tab f n 0) ≡ true) (once : fields_once (tab f n 0) ≡ true) (place : Detail → ℕ)
    (l : Lot) where
  abbrev lot_places : List ℕ
  lot_places = map place (pools_of l)

  abbrev is_its : Pool → Bool
  is_its = is_taken tgt (map (fields_at tgt f n order once) lot_places)

  abbrev its : List Pool
  its = keep is_its (tab f n 0)

  -- the second half of one_by_record
  abbrev pub agrees : Pool → Bool
  agrees r = eqb r.ordinal (first_ordinal its) && (eqb r.kind (kind_number (lot_kind l)) && eqb r.millions (lot_millions l))

  abbrev pub Agreed : Type 0
  Agreed =
      ((d : Detail) → d ∈ pools_of l
      → (f (place d)).ordinal ≡ (f (place l.last)).ordinal) × ((f (place l.last)).kind ≡ kind_number (lot_kind l)) × ((f (place l.last)).millions
      ≡ lot_millions l)

  last_in : l.last ∈ pools_of l
  last_in = Memᴰ.append_right l.middles (Memᴰ.head refl)

  module _ (w : Within tgt f n order once lot_places) where
    pub agree_out : all agrees its ≡ true → Agreed
    agree_out e = (λ d m. (each d m).0 ∙ sym (each l.last last_in).0, (each l.last last_in).1, (each l.last last_in).2)
      where
        each : (d : Detail) → d ∈ pools_of l
            → ((f (place d)).ordinal ≡ first_ordinal its) × ((f (place d)).kind ≡ kind_number (lot_kind l)) × ((f (place d)).millions ≡ lot_millions l)
        each d m =
            let k : place d ∈ lot_places = Memᴰ.map place m in
            let i : f (place d) ∈ tab f n 0 = tab_in f n 0 (place d) (omega arith) (omega (arith, (w (place d) k).0)) in
            let t = all_out agrees (keep_member is_its i (taken_in tgt f n order once lot_places w (place d) k)) e in
            let r : Pool = f (place d) in
            let u = and_right (eqb r.ordinal (first_ordinal its)) (eqb r.kind (kind_number (lot_kind l)) && eqb r.millions (lot_millions l)) t in (
              eqb-true r.ordinal (first_ordinal its)
                  (and_left (eqb r.ordinal (first_ordinal its)) (eqb r.kind (kind_number (lot_kind l)) && eqb r.millions (lot_millions l)) t),
              eqb-true r.kind (kind_number (lot_kind l)) (and_left (eqb r.kind (kind_number (lot_kind l))) (eqb r.millions (lot_millions l)) u),
              eqb-true r.millions (lot_millions l) (and_right (eqb r.kind (kind_number (lot_kind l))) (eqb r.millions (lot_millions l)) u),
            )

    pub agree_in : Agreed → all agrees its ≡ true
    agree_in (o, k, m) = all_in agrees its each
      where
        -- a record that is taken is that of a pool
        pool : (r : Pool) → r ∈ its → (i : ℕ) × (i < n) × (r ≡ f i) × ((d : Detail) × (d ∈ pools_of l) × (i ≡ place d))
        pool r a =
            let (b, t) = keep_in is_its (tab f n 0) a in
            let (i, h, j, e) = tab_from f n 0 r b in
            (i, omega (arith, j), e, map_from place (pools_of l) i (taken_out tgt f n order once lot_places w i (omega (arith, j)) (rw e at t)))

        ordinal : (r : Pool) → r ∈ its → r.ordinal ≡ (f (place l.last)).ordinal
        ordinal r a = let (i, h, e, (d, c, q)) = pool r a in ap (λ (x : Pool). x.ordinal) (e ∙ ap f q) ∙ o d c

        each : (r : Pool) → r ∈ its → agrees r ≡ true
        each r a =
            let (x, b, g) = first_of r its a in
            let (i, h, e, (d, c, q)) = pool r a in
            let last : ℕ = place l.last in
            let wl = w last (Memᴰ.map place last_in) in
            let wi = w i (rw q (Memᴰ.map place c)) in
            let s = lot_alike_law f n order once i last h wl.0
            (is_lot_law (f i) (f last) (under_one tgt (f i) (f last) wi.1 wl.1) (ap (λ (j : ℕ). (f j).ordinal) q ∙ o d c)) in
            both (eqb r.ordinal (first_ordinal its)) (eqb r.kind (kind_number (lot_kind l)) && eqb r.millions (lot_millions l))
            (eq-eqb r.ordinal (first_ordinal its) (ordinal r a ∙ sym (g ∙ ordinal x b)))
            (both (eqb r.kind (kind_number (lot_kind l))) (eqb r.millions (lot_millions l))
            (eq-eqb r.kind (kind_number (lot_kind l)) (ap (λ (x : Pool). x.kind) e ∙ s.0 ∙ k))
            (eq-eqb r.millions (lot_millions l) (ap (λ (x : Pool). x.millions) e ∙ s.1 ∙ m)))
