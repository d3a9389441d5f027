-- Formed lots (19): a state held at each pool is, after the last end, that of the lots; and a lot's pools are canceled all or none.
use Prim.Native.Nat.{ℕ}
use mathlib.Core.Path.{◌≡◌, refl, sym, ap, ◌∙◌}
use mathlib.Core.List.Memᴰ
use mathlib.Core.List.{List, [], ◌∷◌, ◌++◌}
use mathlib.Core.Bool.{Bool, true, false, cond, not, ◌&&◌, false≢true, beq}
use mathlib.Core.Logic.{◌⊎◌, inl, inr}
use lib.Dec.{eqb}
use borrow.Author.Tests.{eqb-true, eq-eqb}
use Rattle.lists.specs.Lists.{keep, all, fold}
use Rattle.lists.proofs.Tests.{◌∈◌, and_left, and_right, both, all_out, keep_const}
use Rattle.layout.specs.declared.Detail.{Detail}
use Rattle.terminator.specs.Terminators.{digit_canceled, is_end, is_wrong, is_bad, one, term, is_canceled}
use Rattle.terminator.specs.Lots.{Lot, pools_of, lots_from, lots, goes_on, lots_formed, first_on, first_cc, formed_for}
use Rattle.terminator.specs.Groups.{lot_canceled}
use Rattle.book.proofs.ListLaws.{all_implied, all_both}

-- a detail of formed lots that is no end is followed by one with its position one
abbrev formed_here : (ℕ → Bool) → Detail → List Detail → Bool
formed_here first d ds = (first (one d) && not (is_wrong (term d))) && goes_on d ds

pub formed_on : (first : ℕ → Bool) (d : Detail) (ds : List Detail) → lots_formed first (d ∷ ds) ≡ true → goes_on d ds ≡ true
formed_on first d ds f = and_right (first (one d) && not (is_wrong (term d))) (goes_on d ds) (and_left (formed_here first d ds) (lots_formed first ds) f)

pub formed_below : (first : ℕ → Bool) (d : Detail) (ds : List Detail) → lots_formed first (d ∷ ds) ≡ true → lots_formed first ds ≡ true
formed_below first d ds f = and_right (formed_here first d ds) (lots_formed first ds) f

-- some pools are left after a middle
pub some_left : (d : Detail) (ds : List Detail) → is_end (term d) ≡ false → goes_on d ds ≡ true → (ms : List Detail) → ds ≡ [] → ms ≡ []
some_left d ds e g ms p = absurd (false≢true (sym e ∙ (rw p at g)))

-- ---- a state that is held at each pool: after the last end, it is that of the lots
module _ {S A : Type 0} (step : S → Detail → S) (hold : List Detail → A → S) (take_lot : A → Lot → A)
    (middle : (ms : List Detail) (a : A) (d : Detail) → is_end (term d) ≡ false → step (hold ms a) d ≡ hold (ms ++ (d ∷ [])) a)
    (last : (ms : List Detail) (a : A) (d : Detail) → is_end (term d) ≡ true
    → step (hold ms a) d ≡ hold [] (take_lot a (record { middles = ms; last = d }))) where
  whole_from : (first : ℕ → Bool) (ms : List Detail) (a : A) (ds : List Detail) → (ds ≡ [] → ms ≡ []) → lots_formed first ds ≡ true
      → fold step (hold ms a) ds ≡ hold [] (fold take_lot a (lots_from ms ds))
  whole_from first ms a [] w f = ap (λ (l : List Detail). hold l a) (w refl)
  whole_from first ms a (d ∷ ds) w f =
      go (is_end (term d)) refl (whole_from first [] (take_lot a (record { middles = ms; last = d })) ds (λ p. refl) below)
      (λ e. whole_from first (ms ++ (d ∷ [])) a ds (some_left d ds e (formed_on first d ds f) (ms ++ (d ∷ []))) below)
    where
      below : lots_formed first ds ≡ true
      below = formed_below first d ds f

      go : (b : Bool) → is_end (term d) ≡ b
          → fold step (hold [] (take_lot a (record { middles = ms; last = d }))) ds
          ≡ hold [] (fold take_lot (take_lot a (record { middles = ms; last = d })) (lots_from [] ds))
          → (is_end (term d) ≡ false → fold step (hold (ms ++ (d ∷ [])) a) ds ≡ hold [] (fold take_lot a (lots_from (ms ++ (d ∷ [])) ds)))
          → fold step (step (hold ms a) d) ds
          ≡ hold [] (fold take_lot a (cond b (record { middles = ms; last = d } ∷ lots_from [] ds) (lots_from (ms ++ (d ∷ [])) ds)))
      go true e h k = ap (λ (s : S). fold step s ds) (last ms a d e) ∙ h
      go false e h k = ap (λ (s : S). fold step s ds) (middle ms a d e) ∙ k e

  pub whole_lots_law : (cc : Bool) (a : A) (ds : List Detail) → formed_for cc ds ≡ true → fold step (hold [] a) ds ≡ hold [] (fold take_lot a (lots ds))
  unfolding formed_for lots
  whole_lots_law cc a ds f = whole_from (cond cc first_cc first_on) [] a ds (λ p. refl) f

-- ---- position one in a lot
abbrev next : List Detail → Detail → Bool
next [] m = false
next (d ∷ ds) m = eqb (one m) (one d)

abbrev even_lot : Lot → Bool
even_lot l = all (λ (m : Detail). eqb (one m) (one l.last)) l.middles

even_from : (first : ℕ → Bool) (ms ds : List Detail) → (ds ≡ [] → ms ≡ []) → all (next ds) ms ≡ true → lots_formed first ds ≡ true
    → all even_lot (lots_from ms ds) ≡ true
even_from first ms [] w h f = refl
even_from first ms (d ∷ ds) w h f =
    go (is_end (term d)) refl (even_from first [] ds (λ p. refl) refl (formed_below first d ds f))
    (λ e. even_from first (ms ++ (d ∷ [])) ds (some_left d ds e (formed_on first d ds f) (ms ++ (d ∷ []))) (on ds e (formed_on first d ds f))
    (formed_below first d ds f))
  where
    on : (es : List Detail) → is_end (term d) ≡ false → goes_on d es ≡ true → all (next es) (ms ++ (d ∷ [])) ≡ true
    on [] e g = absurd (false≢true (sym e ∙ g))
    on (x ∷ xs) e g =
        let q : eqb (one d) (one x) ≡ true = and_left (eqb (one d) (one x)) (beq (is_bad (term d)) (is_bad (term x))) (rw e at g) in
        all_both (next (x ∷ xs)) ms (d ∷ [])
        (all_implied (next (d ∷ ds)) (next (x ∷ xs)) (λ m k. eq-eqb (one m) (one x) (eqb-true (one m) (one d) k ∙ eqb-true (one d) (one x) q)) ms h)
        (rw q)

    go : (b : Bool) → is_end (term d) ≡ b → all even_lot (lots_from [] ds) ≡ true
        → (is_end (term d) ≡ false → all even_lot (lots_from (ms ++ (d ∷ [])) ds) ≡ true)
        → all even_lot (cond b (record { middles = ms; last = d } ∷ lots_from [] ds) (lots_from (ms ++ (d ∷ [])) ds)) ≡ true
    go true e k j = both (all (λ (m : Detail). eqb (one m) (one d)) ms) (all even_lot (lots_from [] ds)) h k
    go false e k j = j e

-- a lot's pools are canceled all or none
pub canceled_alike : (cc : Bool) (ds : List Detail) → formed_for cc ds ≡ true → (l : Lot) → l ∈ lots ds → (d : Detail) → d ∈ pools_of l
    → is_canceled d ≡ lot_canceled l
unfolding formed_for lots
canceled_alike cc ds f l m d k = ap (λ (n : ℕ). eqb n digit_canceled) (by (Memᴰ.append_cases l.middles k))
  where
    even : even_lot l ≡ true
    even = all_out even_lot m (even_from (cond cc first_cc first_on) [] ds (λ p. refl) refl f)

    by : (d ∈ l.middles) ⊎ (d ∈ (l.last ∷ [])) → one d ≡ one l.last
    by (inl a) = eqb-true (one d) (one l.last) (all_out (λ (x : Detail). eqb (one x) (one l.last)) a even)
    by (inr a) = of (Memᴰ.cases_cons a)
      where
        of : (d ≡ l.last) ⊎ (d ∈ []) → one d ≡ one l.last
        of (inl p) = ap one p
        of (inr p) = absurd (Memᴰ.not-nil p)

pub canceled_pools : (cc : Bool) (ds : List Detail) → formed_for cc ds ≡ true → (l : Lot) → l ∈ lots ds
    → keep is_canceled (pools_of l) ≡ cond (lot_canceled l) (pools_of l) []
canceled_pools cc ds f l m = keep_const is_canceled (lot_canceled l) (pools_of l) (canceled_alike cc ds f l m)
