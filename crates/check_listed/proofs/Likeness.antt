-- A pass over the pools that compares each lot with its records is a test of every lot.
use Prim.Native.Nat.{ℕ}
use mathlib.Core.Path.{◌≡◌, refl, sym, ap, ◌∙◌}
use mathlib.Core.Logic.{◌⊎◌, inl, inr}
use mathlib.Core.List.Memᴰ
use mathlib.Core.List.{List, [], ◌∷◌, ◌++◌}
use mathlib.Core.Bool.{Bool, true, false, ◌&&◌, and-true, and_assoc}
use lib.Dec.{eqb}
use borrow.Author.Tests.{eq-eqb, eqb-true}
use Rattle.std.specs.Prelude.{Option, Some, None, unwrap_or}
use Rattle.lists.specs.Lists.{all, fold}
use Rattle.lists.proofs.Tests.{◌∈◌, all_in, all_out, all_append}
use Rattle.layout.specs.declared.Detail.{Detail}
use Rattle.terminator.specs.Terminators.{is_end, term}
use Rattle.terminator.specs.Lots.{Lot, pools_of, lots, formed_for}
use Rattle.book.specs.declared.Pool.{Pool}
use Rattle.check_listed.specs.declared.Alike.{Alike}
use Rattle.check_listed.specs.Lots.{ordinal_in, last_fits, alike_pool, alike_all}
use Rattle.check_listed.proofs.Formed.{whole_lots_law}

module _ (its_record : Detail → Option Pool) where
  abbrev pub ordinal_of : Detail → ℕ
  ordinal_of d = ordinal_in (its_record d)

  -- whether some pools have one ordinal
  abbrev pub one_ordinal : List Detail → Bool
  one_ordinal [] = true
  one_ordinal (x ∷ xs) = all (λ (d : Detail). eqb (ordinal_of x) (ordinal_of d)) xs

  abbrev pub lot_alike : Lot → Bool
  lot_alike l = one_ordinal (pools_of l) && last_fits l.last (its_record l.last)

  abbrev alike_on : Alike → Detail → Alike
  alike_on s d = alike_pool s d (its_record d)

  -- the ordinal of the first of some pools
  abbrev first_of : List Detail → Option ℕ
  first_of [] = None
  first_of (x ∷ xs) = Some (ordinal_of x)

  abbrev hold : List Detail → Bool → Alike
  hold ms a = record { fine = a && one_ordinal ms; lot = first_of ms }

  abbrev take_lot : Bool → Lot → Bool
  take_lot a l = a && lot_alike l

  -- whether one pool more has that ordinal
  abbrev goes_with : List Detail → Detail → Bool
  goes_with ms d = eqb (unwrap_or (first_of ms) (ordinal_of d)) (ordinal_of d)

  one_more_law : (ms : List Detail) (d : Detail) → one_ordinal (ms ++ (d ∷ [])) ≡ (one_ordinal ms && goes_with ms d)
  one_more_law [] d = sym (eq-eqb (ordinal_of d) (ordinal_of d) refl)
  one_more_law (x ∷ xs) d =
      all_append (λ (y : Detail). eqb (ordinal_of x) (ordinal_of y)) xs (d ∷ [])
      ∙ ap (λ (b : Bool). all (λ (y : Detail). eqb (ordinal_of x) (ordinal_of y)) xs && b) (and-true (eqb (ordinal_of x) (ordinal_of d)))

  fine_more : (ms : List Detail) (a : Bool) (d : Detail) → ((a && one_ordinal ms) && goes_with ms d) ≡ (a && one_ordinal (ms ++ (d ∷ [])))
  fine_more ms a d = and_assoc a (one_ordinal ms) (goes_with ms d) ∙ ap (λ (b : Bool). a && b) (sym (one_more_law ms d))

  firsts : (ms : List Detail) (d : Detail) → Some (unwrap_or (first_of ms) (ordinal_of d)) ≡ first_of (ms ++ (d ∷ []))
  firsts [] d = refl
  firsts (x ∷ xs) d = refl

  hold_middle : (ms : List Detail) (a : Bool) (d : Detail) → is_end (term d) ≡ false → alike_on (hold ms a) d ≡ hold (ms ++ (d ∷ [])) a
  unfolding alike_pool
  hold_middle ms a d e = rw e (λ i. record { fine = fine_more ms a d i; lot = firsts ms d i })

  hold_last : (ms : List Detail) (a : Bool) (d : Detail) → is_end (term d) ≡ true
      → alike_on (hold ms a) d ≡ hold [] (take_lot a (record { middles = ms; last = d }))
  unfolding alike_pool
  hold_last ms a d e =
      let l : Bool = last_fits d (its_record d) in
      let p : (((a && one_ordinal ms) && goes_with ms d) && l) ≡ ((a && (one_ordinal (ms ++ (d ∷ [])) && l)) && true) =
      ap (λ (b : Bool). b && l) (fine_more ms a d) ∙ and_assoc a (one_ordinal (ms ++ (d ∷ []))) l ∙ sym (and-true (a && (one_ordinal (ms ++ (d ∷ [])) && l))) in
      rw e (λ i. record { fine = p i; lot = None })

  fold_lots : (a : Bool) (ls : List Lot) → fold take_lot a ls ≡ (a && all lot_alike ls)
  fold_lots a [] = sym (and-true a)
  fold_lots a (l ∷ ls) = fold_lots (a && lot_alike l) ls ∙ and_assoc a (lot_alike l) (all lot_alike ls)

  pub alike_pass : (cc : Bool) (ds : List Detail) → formed_for cc ds ≡ true → (alike_all its_record ds).fine ≡ all lot_alike (lots ds)
  alike_pass cc ds f =
      ap (λ (s : Alike). s.fine) (whole_lots_law alike_on hold take_lot hold_middle hold_last cc true ds f)
      ∙ and-true (fold take_lot true (lots ds))
      ∙ fold_lots true (lots ds)

  -- any two of some pools with one ordinal
  pub ordinal_out : (ms : List Detail) → one_ordinal ms ≡ true → (x y : Detail) → x ∈ ms → y ∈ ms → ordinal_of x ≡ ordinal_of y
  ordinal_out [] e x y a b = absurd (Memᴰ.not-nil a)
  ordinal_out (m ∷ ms) e x y a b = sym (each x a) ∙ each y b
    where
      each : (z : Detail) → z ∈ (m ∷ ms) → ordinal_of m ≡ ordinal_of z
      each z c = go (Memᴰ.cases_cons c)
        where
          go : (z ≡ m) ⊎ (z ∈ ms) → ordinal_of m ≡ ordinal_of z
          go (inl p) = ap ordinal_of (sym p)
          go (inr k) = eqb-true (ordinal_of m) (ordinal_of z) (all_out (λ (d : Detail). eqb (ordinal_of m) (ordinal_of d)) k e)

  pub ordinal_in_law : (ms : List Detail) → ((x y : Detail) → x ∈ ms → y ∈ ms → ordinal_of x ≡ ordinal_of y) → one_ordinal ms ≡ true
  ordinal_in_law [] h = refl
  ordinal_in_law (m ∷ ms) h =
      all_in (λ (d : Detail). eqb (ordinal_of m) (ordinal_of d)) ms (λ d k. eq-eqb (ordinal_of m) (ordinal_of d) (h m d (Memᴰ.head refl) (Memᴰ.tail k)))
