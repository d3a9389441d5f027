-- Marks: where no place is listed twice, each entry's place has its lot's number, and every place with a mark is that of an entry.
use Prim.Native.Nat.{ℕ, ◌<◌, ◌≤◌}
use mathlib.Core.Path.{◌≡◌, refl, sym, ap, ◌∙◌}
use mathlib.Core.Logic.{◌⊎◌, inl, inr}
use mathlib.Core.List.Memᴰ
use mathlib.Core.List.{List, [], ◌∷◌, map}
use mathlib.Core.Bool.{true, false, not}
use native.Mathlib.Omega.{arith}
use native.Mathlib.Decide.{ℕ_discrete, dec_lt}
use lib.Dec.{eqb}
use lib.ListN.{length, get_or, set, length-set}
use lib.Seq.{get_or-set_same, get_or-set_other, set_out}
use borrow.Author.Tests.{eq-eqb, eqb-true, not-true}
use Rattle.lists.proofs.Tests.{◌∈◌, and_left, and_right, both, clash, un_true}
use Rattle.book.specs.Records.{Fields, has_fields, distinct}
use Rattle.book.proofs.Targets.{has_in, has_out}
use Rattle.check_listed.specs.Marks.{Marked, Entry, mark_place, mark_all}
use Rattle.check_listed.proofs.Taken.{map_from}

-- the mark of a place
abbrev pub mark_at : Marked → ℕ → ℕ
mark_at s i = get_or s.marks i 0

-- a place with a mark is that of an entry
pub mark_from_law : (s : Marked) (es : List Entry) (i : ℕ)
    → (mark_at (mark_all s es) i ≡ mark_at s i) ⊎ ((e : Entry) × (e ∈ es) × (e.place ≡ i) × (e.lot ≡ mark_at (mark_all s es) i))
mark_from_law s [] i = inl refl
mark_from_law s (e ∷ es) i = go (mark_from_law (mark_place s e) es i) (ℕ_discrete i e.place)
  where
    m : ℕ
    m = mark_at (mark_all (mark_place s e) es) i

    go : (m ≡ mark_at (mark_place s e) i) ⊎ ((x : Entry) × (x ∈ es) × (x.place ≡ i) × (x.lot ≡ m)) → Dec (i ≡ e.place)
        → (m ≡ mark_at s i) ⊎ ((x : Entry) × (x ∈ (e ∷ es)) × (x.place ≡ i) × (x.lot ≡ m))
    go (inl a) (no d) = inl (a ∙ get_or-set_other s.marks e.place i e.lot 0 d)
    go (inl a) (yes d) = by (dec_lt e.place (length s.marks))
      where
        by : Dec (e.place < length s.marks) → (m ≡ mark_at s i) ⊎ ((x : Entry) × (x ∈ (e ∷ es)) × (x.place ≡ i) × (x.lot ≡ m))
        by (yes h) =
            inr (e, Memᴰ.head refl, sym d, sym (a ∙ ap (λ (k : ℕ). get_or (set s.marks e.place e.lot) k 0) d ∙ get_or-set_same s.marks e.place e.lot 0 h))
        by (no h) = inl (a ∙ ap (λ (l : List ℕ). get_or l i 0) (set_out s.marks e.place e.lot (omega (arith, h))))
    go (inr (x, k, a, b)) d = inr (x, Memᴰ.tail k, a, b)

pub length_marks : (s : Marked) (es : List Entry) → length (mark_all s es).marks ≡ length s.marks
length_marks s [] = refl
length_marks s (e ∷ es) = length_marks (mark_place s e) es ∙ length-set s.marks e.place e.lot

-- entries whose lots have numbers and whose places stand in the marks
abbrev pub Fits : ℕ → List Entry → Type 0
Fits most es = (e : Entry) → e ∈ es → (e.place < most) × (1 ≤ e.lot)

-- fine marks: they were fine before, and every entry's place had none
pub fine_before : (s : Marked) (es : List Entry) → (mark_all s es).fine ≡ true → s.fine ≡ true
fine_before s [] a = a
fine_before s (e ∷ es) a = and_left s.fine (eqb (mark_at s e.place) 0) (fine_before (mark_place s e) es a)

mark_same : (most : ℕ) (s : Marked) (e : Entry) → length s.marks ≡ most → e.place < most → mark_at (mark_place s e) e.place ≡ e.lot
mark_same most s e l h = get_or-set_same s.marks e.place e.lot 0 (omega arith)

module _ (most : ℕ) where
  after : (s : Marked) (e : Entry) → length s.marks ≡ most → length (mark_place s e).marks ≡ most
  after s e l = length-set s.marks e.place e.lot ∙ l

  pub fine_none : (s : Marked) (es : List Entry) → length s.marks ≡ most → Fits most es → (mark_all s es).fine ≡ true → (e : Entry) → e ∈ es
      → mark_at s e.place ≡ 0
  fine_none s [] l t a e m = absurd (Memᴰ.not-nil m)
  fine_none s (x ∷ xs) l t a e m =
      go (Memᴰ.cases_cons m) (fine_none (mark_place s x) xs (after s x l) (λ y k. t y (Memᴰ.tail k)) a e) (ℕ_discrete e.place x.place)
    where
      zero_there : mark_at s x.place ≡ 0
      zero_there = eqb-true (mark_at s x.place) 0 (and_right s.fine (eqb (mark_at s x.place) 0) (fine_before (mark_place s x) xs a))

      go : (e ≡ x) ⊎ (e ∈ xs) → (e ∈ xs → mark_at (mark_place s x) e.place ≡ 0) → Dec (e.place ≡ x.place) → mark_at s e.place ≡ 0
      go (inl p) below d = rw p zero_there
      go (inr k) below (yes d) = rw d zero_there
      go (inr k) below (no d) = sym (get_or-set_other s.marks x.place e.place x.lot 0 d) ∙ below k

  -- a mark stays
  mark_stays : (s : Marked) (es : List Entry) → (mark_all s es).fine ≡ true → (i : ℕ) → 1 ≤ mark_at s i → mark_at (mark_all s es) i ≡ mark_at s i
  mark_stays s [] a i h = refl
  mark_stays s (x ∷ xs) a i h =
      let z : mark_at s x.place ≡ 0 = eqb-true (mark_at s x.place) 0 (and_right s.fine (eqb (mark_at s x.place) 0) (fine_before (mark_place s x) xs a)) in
      let o : mark_at (mark_place s x) i ≡ mark_at s i = get_or-set_other s.marks x.place i x.lot 0 (λ e. omega (arith, ap (mark_at s) e)) in
      mark_stays (mark_place s x) xs a i (omega (arith, o)) ∙ o

  -- each entry's place has its lot's number
  pub mark_of_law : (s : Marked) (es : List Entry) → length s.marks ≡ most → Fits most es → (mark_all s es).fine ≡ true → (e : Entry) → e ∈ es
      → mark_at (mark_all s es) e.place ≡ e.lot
  mark_of_law s [] l t a e m = absurd (Memᴰ.not-nil m)
  mark_of_law s (x ∷ xs) l t a e m = go (Memᴰ.cases_cons m) (mark_of_law (mark_place s x) xs (after s x l) (λ y k. t y (Memᴰ.tail k)) a e)
    where
      first : mark_at (mark_all (mark_place s x) xs) x.place ≡ x.lot
      first =
          let f = t x (Memᴰ.head refl) in
          let o = mark_same most s x l f.0 in
          mark_stays (mark_place s x) xs a x.place (omega (arith, o, f.1)) ∙ o

      go : (e ≡ x) ⊎ (e ∈ xs) → (e ∈ xs → mark_at (mark_all (mark_place s x) xs) e.place ≡ e.lot) → mark_at (mark_all (mark_place s x) xs) e.place ≡ e.lot
      go (inl p) below = rw p first
      go (inr k) below = below k

  -- ---- by fields: entries whose fields are equal have one place
  module _ (g : ℕ → Fields) where
    abbrev pub entry_fields : Entry → Fields
    entry_fields e = g e.place

    abbrev pub Apart : List Entry → Type 0
    Apart es = (e x : Entry) → e ∈ es → x ∈ es → entry_fields e ≡ entry_fields x → e.place ≡ x.place

    pub fine_distinct : (s : Marked) (es : List Entry) → length s.marks ≡ most → Fits most es → Apart es → (mark_all s es).fine ≡ true
        → distinct (map entry_fields es) ≡ true
    fine_distinct s [] l t u a = refl
    fine_distinct s (x ∷ xs) l t u a =
        both (not (has_fields (entry_fields x) (map entry_fields xs))) (distinct (map entry_fields xs)) (rw once)
        (fine_distinct (mark_place s x) xs (after s x l) (λ y k. t y (Memᴰ.tail k)) (λ e y m k. u e y (Memᴰ.tail m) (Memᴰ.tail k)) a)
      where
        once : has_fields (entry_fields x) (map entry_fields xs) ≡ false
        once =
            un_true (has_fields (entry_fields x) (map entry_fields xs))
            (λ h. let (e, m, q) = map_from entry_fields xs (entry_fields x) (has_out (entry_fields x) (map entry_fields xs) h) in
            let r : x.place ≡ e.place = u x e (Memᴰ.head refl) (Memᴰ.tail m) q in
            let z = fine_none (mark_place s x) xs (after s x l) (λ y k. t y (Memᴰ.tail k)) a e m in
            let f = t x (Memᴰ.head refl) in
            omega (arith, mark_same most s x l f.0, f.1, ap (mark_at (mark_place s x)) r, z))

    pub distinct_fine : (s : Marked) (es : List Entry) → s.fine ≡ true → ((e : Entry) → e ∈ es → mark_at s e.place ≡ 0)
        → distinct (map entry_fields es) ≡ true → (mark_all s es).fine ≡ true
    distinct_fine s [] a z d = a
    distinct_fine s (x ∷ xs) a z d =
        distinct_fine (mark_place s x) xs (both s.fine (eqb (mark_at s x.place) 0) a (eq-eqb (mark_at s x.place) 0 (z x (Memᴰ.head refl)))) none
        (and_right (not (has_fields (entry_fields x) (map entry_fields xs))) (distinct (map entry_fields xs)) d)
      where
        none : (e : Entry) → e ∈ xs → mark_at (mark_place s x) e.place ≡ 0
        none e m = get_or-set_other s.marks x.place e.place x.lot 0 other ∙ z e (Memᴰ.tail m)
          where
            other : e.place ≡ x.place → ⊥
            other q =
                clash (rw (ap g q) at (has_in (Memᴰ.map entry_fields m)))
                (not-true (has_fields (entry_fields x) (map entry_fields xs))
                (and_left (not (has_fields (entry_fields x) (map entry_fields xs))) (distinct (map entry_fields xs)) d))
