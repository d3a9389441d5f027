-- Bringing lots: the new ones are apart from the old ones by their ID, from one another by their ordinal and, since no pool repeats (36), by their
-- matched fields; and what they add to the sums.
use mathlib.Core.Path.{◌≡◌, refl, sym, ap, ◌∙◌}
use mathlib.Core.Logic.{◌⊎◌, inl, inr}
use mathlib.Core.Bool.{Bool, true, false, cond, and-false}
use mathlib.Core.List.Memᴰ
use mathlib.Core.List.{List, [], ◌∷◌, ◌++◌}
use Prim.Native.Nat.{ℕ, ◌+◌, ◌*◌, ◌≤◌, ◌<◌}
use native.Mathlib.Omega.{arith}
use lib.Dec.{eqb}
use borrow.Author.Tests.{ne_eqb}
use Rattle.lists.specs.Lists.{sum_of}
use Rattle.lists.proofs.Tests.{◌∈◌, cond_zero}
use Rattle.terminator.specs.Lots.{Lot, lot_millions}
use Rattle.book.specs.Dues.{Due, due_share}
use Rattle.book.specs.Records.{Fields, distinct}
use Rattle.book.specs.Checks.{lot_fields}
use Rattle.book.specs.History.{Brought, bring, trade_share, fields_of_lots, millions_by_ons, millions_by_dks}
use Rattle.book.proofs.Dues.{due_lots, AllTo}
use Rattle.book.proofs.Targets.{distinct_right, distinct_cross, in_fields_of_lots}
use Rattle.book.proofs.Laid.{Other, Apart}
use Rattle.book.proofs.Taking.{Fine, Pair, Lots, standing}

-- what holds of a lot that comes
pub record New (i o : ℕ) (ds : List Due) (g : Brought) : Type 0 where
  pub id : g.id ≡ i
  pub offs : g.offs ≡ 0
  pub ordinal : o ≤ g.ordinal
  pub from : (d : Due) × (d ∈ ds) × (g.trade ≡ d.to) × (g.lot ≡ d.lot)

-- the lot of one that is due is among all their lots
in_due_lots : {d : Due} {ds : List Due} → d ∈ ds → d.lot ∈ due_lots ds
in_due_lots (Memᴰ.head p) = Memᴰ.head (ap (λ (d : Due). d.lot) p)
in_due_lots (Memᴰ.tail m) = Memᴰ.tail (in_due_lots m)

module _ (i : ℕ) (by_on : Bool) where
  abbrev comes : ℕ → Due → Brought
  comes o d = record { id = i; ordinal = o; trade = d.to; lot = d.lot; by_on = by_on; offs = 0; dks = 0 }

  new : (o : ℕ) (ds : List Due) (g : Brought) → g ∈ bring i by_on o ds → New i o ds g
  new o [] g m = absurd (Memᴰ.not-nil m)
  new o (d ∷ ds) g m = go (Memᴰ.cases_cons m) (new (o + 1) ds g)
    where
      go : (g ≡ comes o d) ⊎ (g ∈ bring i by_on (o + 1) ds) → (g ∈ bring i by_on (o + 1) ds → New i (o + 1) ds g) → New i o (d ∷ ds) g
      go (inl e) below = rw e (record { id = refl; offs = refl; ordinal = omega arith; from = (d, Memᴰ.head refl, refl, refl) })
      go (inr n) below =
          let w = below n in
          record { id = w.id; offs = w.offs; ordinal = omega arith; from = (w.from.0, Memᴰ.tail w.from.1, w.from.2, w.from.3) }

  new_lot : (o : ℕ) (ds : List Due) (g : Brought) → g ∈ bring i by_on o ds → g.lot ∈ due_lots ds
  new_lot o ds g m = let w = new o ds g m in rw w.from.3 (in_due_lots w.from.1)

  bring_apart : (o : ℕ) (ds : List Due) → Apart (bring i by_on o ds)
  bring_apart o [] = tt
  bring_apart o (d ∷ ds) = (λ g m. rw (ne_eqb g.ordinal o (λ e. omega (arith, (new (o + 1) ds g m).ordinal))) (and-false (eqb g.id i)), bring_apart (o + 1) ds)

  bring_one : (o : ℕ) (ds : List Due) → distinct (fields_of_lots (due_lots ds)) ≡ true → (g h : Brought) → g ∈ bring i by_on o ds → h ∈ bring i by_on o ds
      → (f : Fields) → f ∈ lot_fields g.lot → f ∈ lot_fields h.lot → g ≡ h
  bring_one o [] k g h mg mh f fg fh = absurd (Memᴰ.not-nil mg)
  bring_one o (d ∷ ds) k g h mg mh f fg fh =
      go (Memᴰ.cases_cons mg) (Memᴰ.cases_cons mh) (λ ng nh. bring_one (o + 1) ds (distinct_right (lot_fields d.lot) (fields_of_lots (due_lots ds)) k) g h ng nh f fg fh)
    where
      go : (g ≡ comes o d) ⊎ (g ∈ bring i by_on (o + 1) ds) → (h ≡ comes o d) ⊎ (h ∈ bring i by_on (o + 1) ds)
          → (g ∈ bring i by_on (o + 1) ds → h ∈ bring i by_on (o + 1) ds → g ≡ h) → g ≡ h
      go (inl a) (inl b) below = a ∙ sym b
      go (inl a) (inr b) below = absurd (distinct_cross (lot_fields d.lot) (fields_of_lots (due_lots ds)) k (rw a at fg) (in_fields_of_lots (new_lot (o + 1) ds h b) fh))
      go (inr a) (inl b) below = absurd (distinct_cross (lot_fields d.lot) (fields_of_lots (due_lots ds)) k (rw b at fh) (in_fields_of_lots (new_lot (o + 1) ds g a) fg))
      go (inr a) (inr b) below = below a b

  -- what they add to what stands, to what ONs brought and to what DKs took off
  pub standing_bring : (v : Lot → ℕ) (u o : ℕ) (ds : List Due) → sum_of (trade_share u (standing v)) (bring i by_on o ds) ≡ sum_of (due_share u v) ds
  standing_bring v u o [] = refl
  standing_bring v u o (d ∷ ds) = rw (standing_bring v u (o + 1) ds)

  pub ons_bring : (u o : ℕ) (ds : List Due) → millions_by_ons u (bring i by_on o ds) ≡ cond by_on (sum_of (due_share u lot_millions) ds) 0
  unfolding millions_by_ons
  ons_bring u o [] = sym (cond_zero by_on)
  ons_bring u o (d ∷ ds) = rw (ons_bring u (o + 1) ds) (go by_on (eqb d.to u))
    where
      go : (c b : Bool) → cond b (cond c (lot_millions d.lot) 0) 0 + cond c (sum_of (due_share u lot_millions) ds) 0 ≡ cond c (cond b (lot_millions d.lot) 0 + sum_of (due_share u lot_millions) ds) 0
      go true b = refl
      go false true = refl
      go false false = refl

  pub dks_bring : (u o : ℕ) (ds : List Due) → millions_by_dks u (bring i by_on o ds) ≡ 0
  unfolding millions_by_dks
  dks_bring u o [] = refl
  dks_bring u o (d ∷ ds) = omega (arith, dks_bring u (o + 1) ds, go (eqb d.to u))
    where
      go : (b : Bool) → cond b (0 * lot_millions d.lot) 0 ≡ 0
      go true = omega arith
      go false = refl

apart_append : (xs ys : List Brought) → Apart xs → Apart ys → ((g h : Brought) → g ∈ xs → h ∈ ys → Other g.id g.ordinal h) → Apart (xs ++ ys)
apart_append [] ys a b k = b
apart_append (x ∷ xs) ys a b k =
    (λ g m. go g (Memᴰ.append_cases xs m), apart_append xs ys a.1 b (λ g h m n. k g h (Memᴰ.tail m) n))
  where
    go : (g : Brought) → (g ∈ xs) ⊎ (g ∈ ys) → Other x.id x.ordinal g
    go g (inl m) = a.0 g m
    go g (inr m) = k x g (Memᴰ.head refl) m

-- the new lots under the next ID, beside the old ones
module _ (n last : ℕ) (hs : List Brought) (lots : Lots n last hs) (by_on : Bool) (ds : List Due) (t : ℕ) where
  pub lots_bring : ((d : Due) → d ∈ ds → d.to < n) → AllTo t ds → distinct (fields_of_lots (due_lots ds)) ≡ true → Lots n (last + 1) (hs ++ bring (last + 1) by_on 1 ds)
  lots_bring range to di =
      record {
        fine = λ g m. fine g (Memᴰ.append_cases hs m);
        apart = apart_append hs ns lots.apart (bring_apart (last + 1) by_on 1 ds) far;
        pair = λ g h mg mh e. pair g h (Memᴰ.append_cases hs mg) (Memᴰ.append_cases hs mh) e;
      }
    where
      ns : List Brought
      ns = bring (last + 1) by_on 1 ds

      comes_new : (g : Brought) → g ∈ ns → New (last + 1) 1 ds g
      comes_new g m = new (last + 1) by_on 1 ds g m

      fine : (g : Brought) → (g ∈ hs) ⊎ (g ∈ ns) → Fine (last + 1) n g
      fine g (inl m) = let w = lots.fine g m in record { id = omega arith; trade = w.trade; once = w.once }
      fine g (inr m) =
          let w = comes_new g m in
          record { id = omega arith; trade = rw w.from.2 (range w.from.0 w.from.1); once = omega arith }

      far : (g h : Brought) → g ∈ hs → h ∈ ns → Other g.id g.ordinal h
      far g h m m' = rw (ne_eqb h.id g.id (λ e. omega (arith, (lots.fine g m).id, (comes_new h m').id)))

      there : (g : Brought) → g ∈ ns → g.trade ≡ t
      there g m = let w = comes_new g m in w.from.2 ∙ to w.from.0 w.from.1

      pair : (g h : Brought) → (g ∈ hs) ⊎ (g ∈ ns) → (h ∈ hs) ⊎ (h ∈ ns) → g.id ≡ h.id → Pair g h
      pair g h (inl a) (inl b) e = lots.pair g h a b e
      pair g h (inl a) (inr b) e = absurd (omega (arith, (lots.fine g a).id, (comes_new h b).id))
      pair g h (inr a) (inl b) e = absurd (omega (arith, (lots.fine h b).id, (comes_new g a).id))
      pair g h (inr a) (inr b) e = record { trade = there g a ∙ sym (there h b); one = bring_one (last + 1) by_on 1 ds di g h a b }
