-- The live table is the standing lots of the history laid out one after another: what appending, filtering and sums over its lots do to that.
use Rattle.std.specs.Prelude.{Option}
use mathlib.Core.Path.{◌≡◌, refl, sym, ap, ◌∙◌}
use mathlib.Core.Logic.{◌⊎◌, inl, inr}
use mathlib.Core.Bool.{Bool, true, false, cond, ◌&&◌}
use mathlib.Core.List.Memᴰ
use mathlib.Core.List.{List, [], ◌∷◌, ◌++◌, map, append_assoc}
use Prim.Native.Nat.{ℕ, ◌+◌, ◌*◌}
use lib.Dec.{eqb}
use borrow.Author.Tests.{eq-eqb}
use Rattle.lists.specs.Lists.{keep, sum_of}
use Rattle.lists.proofs.Tests.{◌∈◌, keep_append, keep_in, sum_map, sum_same}
use Rattle.layout.specs.declared.Detail.{Detail}
use Rattle.terminator.specs.declared.Kind.{Kind}
use Rattle.terminator.specs.declared.Kind.TheVariants.{Good, Odd, Bad}
use Rattle.terminator.specs.Lots.{pools_of, lot_kind, lot_millions, lot_weight, weight_of, current_cents, million_cents}
use Rattle.book.specs.declared.Pool.{Pool}
use Rattle.book.specs.Dues.{Due}
use Rattle.book.specs.Records.{Fields, pool_of, records_of, kind_good, kind_number, same_lot, LiveLot, live_pools, join_lot, live_lots, live_weight, live_millions, of_trade}
use Rattle.book.specs.History.{Brought, bring, stands, take_off}
use Rattle.book.proofs.ListLaws.{sum_keep}

-- the record of a pool of a brought lot, and all its records
abbrev pub record_of : Brought → Detail → Pool
record_of h d = pool_of h.id h.ordinal h.trade h.lot d

abbrev pub laid : Brought → List Pool
laid h = map (record_of h) (pools_of h.lot)

-- the records of the lots that pass a test
abbrev pub flat : (Brought → Bool) → List Brought → List Pool
flat s [] = []
flat s (h ∷ hs) = cond (s h) (laid h) [] ++ flat s hs

pub flat_append : (s : Brought → Bool) (xs ys : List Brought) → flat s (xs ++ ys) ≡ flat s xs ++ flat s ys
flat_append s [] ys = refl
flat_append s (h ∷ xs) ys = rw (flat_append s xs ys) (sym (append_assoc (cond (s h) (laid h) []) (flat s xs) (flat s ys)))

pub flat_same : (s u : Brought → Bool) (hs : List Brought) → ((h : Brought) → h ∈ hs → s h ≡ u h) → flat s hs ≡ flat u hs
flat_same s u [] k = refl
flat_same s u (h ∷ hs) k = rw (k h (Memᴰ.head refl), flat_same s u hs (λ g m. k g (Memᴰ.tail m)))

pub flat_take_off : (s : Brought → Bool) (by_dk : Bool) (tgt : Option ℕ) (fs : List Fields) (hs : List Brought)
    → flat s (map (take_off by_dk tgt fs) hs) ≡ flat (λ h. s (take_off by_dk tgt fs h)) hs
flat_take_off s by_dk tgt fs [] = refl
flat_take_off s by_dk tgt fs (h ∷ hs) = rw (flat_take_off s by_dk tgt fs hs)

pub flat_bring : (id : ℕ) (by_on : Bool) (o : ℕ) (ds : List Due) → flat stands (bring id by_on o ds) ≡ records_of id o ds
flat_bring id by_on o [] = refl
flat_bring id by_on o (d ∷ ds) = rw (flat_bring id by_on (o + 1) ds)

pub flat_keep : (q : Pool → Bool) (s u : Brought → Bool) (hs : List Brought)
    → ((h : Brought) → h ∈ hs → s h ≡ true → keep q (laid h) ≡ cond (u h) (laid h) [])
    → keep q (flat s hs) ≡ flat (λ h. s h && u h) hs
flat_keep q s u [] k = refl
flat_keep q s u (h ∷ hs) k =
    rw (keep_append q (cond (s h) (laid h) []) (flat s hs), flat_keep q s u hs (λ g m. k g (Memᴰ.tail m)))
    (ap (λ (l : List Pool). l ++ flat (λ g. s g && u g) hs) (go (s h) (k h (Memᴰ.head refl))))
  where
    go : (b : Bool) → (b ≡ true → keep q (laid h) ≡ cond (u h) (laid h) []) → keep q (cond b (laid h) []) ≡ cond (b && u h) (laid h) []
    go true e = e refl
    go false e = refl

pub in_flat : (s : Brought → Bool) {h : Brought} {hs : List Brought} {r : Pool} → h ∈ hs → s h ≡ true → r ∈ laid h → r ∈ flat s hs
in_flat s {h} {r = r} (Memᴰ.head {x = x} {xs = hs} p) e m = Memᴰ.append_left {s = cond (s x) (laid x) []} (flat s hs) (rw (← p, e) m)
in_flat s (Memᴰ.tail {x = x} n) e m = Memᴰ.append_right (cond (s x) (laid x) []) (in_flat s n e m)

pub flat_in : (s : Brought → Bool) (hs : List Brought) {r : Pool} → r ∈ flat s hs → (h : Brought) × (h ∈ hs) × (s h ≡ true) × (r ∈ laid h)
flat_in s [] m = absurd (Memᴰ.not-nil m)
flat_in s (h ∷ hs) {r} m = go (s h) refl (Memᴰ.append_cases (cond (s h) (laid h) []) m) (λ n. flat_in s hs n)
  where
    go : (b : Bool) → s h ≡ b → (r ∈ cond b (laid h) []) ⊎ (r ∈ flat s hs) → (r ∈ flat s hs → (g : Brought) × (g ∈ hs) × (s g ≡ true) × (r ∈ laid g))
        → (g : Brought) × (g ∈ (h ∷ hs)) × (s g ≡ true) × (r ∈ laid g)
    go true e (inl n) below = (h, Memᴰ.head refl, e, n)
    go false e (inl n) below = absurd (Memᴰ.not-nil n)
    go b e (inr n) below = let w = below n in (w.0, Memᴰ.tail w.1, w.2, w.3)

-- ---- the live lots: a lot's records make up one, since no two lots have the same message ID and ordinal

-- a lot that is not the one of that message ID and ordinal
abbrev pub Other : ℕ → ℕ → Brought → Type 0
Other i o h = (eqb h.id i && eqb h.ordinal o) ≡ false

abbrev pub Apart : List Brought → Type 0
Apart [] = Unit
Apart (h ∷ hs) = ((g : Brought) → g ∈ hs → Other h.id h.ordinal g) × Apart hs

-- the live lot that a brought lot makes up
abbrev lot_from : Brought → List Detail → LiveLot
lot_from h [] = record { first = record_of h h.lot.last; rest = [] }
lot_from h (d ∷ ms) = record { first = record_of h d; rest = map (record_of h) (ms ++ (h.lot.last ∷ [])) }

abbrev pub laid_lot : Brought → LiveLot
laid_lot h = lot_from h h.lot.middles

pools_from : (h : Brought) (ms : List Detail) → live_pools (lot_from h ms) ≡ map (record_of h) (ms ++ (h.lot.last ∷ []))
pools_from h [] = refl
pools_from h (d ∷ ms) = refl

-- what its first record says is what all its records say
first_from : {A : Type 0} (of : Pool → A) (a : A) (h : Brought) → ((d : Detail) → of (record_of h d) ≡ a) → (ms : List Detail) → of (lot_from h ms).first ≡ a
first_from of a h k [] = k h.lot.last
first_from of a h k (d ∷ ms) = k d

-- a record joins no lot that is not its own
join_none : (r : Pool) (ls : List LiveLot) → ((l : LiveLot) → l ∈ ls → same_lot l.first r ≡ false) → join_lot r ls ≡ record { first = r; rest = [] } ∷ ls
join_none r [] k = refl
join_none r (l ∷ ls) k = rw (k l (Memᴰ.head refl))

lots_from_law : (h : Brought) (ms : List Detail) (rest : List Pool) → ((l : LiveLot) → l ∈ live_lots rest → (eqb l.first.message h.id && eqb l.first.ordinal h.ordinal) ≡ false)
    → live_lots (map (record_of h) (ms ++ (h.lot.last ∷ [])) ++ rest) ≡ lot_from h ms ∷ live_lots rest
lots_from_law h [] rest k = join_none (record_of h h.lot.last) (live_lots rest) k
lots_from_law h (d ∷ ms) rest k =
    ap (join_lot (record_of h d)) (lots_from_law h ms rest k)
    ∙ rw (
      first_from (λ (r : Pool). r.message) h.id h (λ e. refl) ms,
      first_from (λ (r : Pool). r.ordinal) h.ordinal h (λ e. refl) ms,
      eq-eqb h.id h.id refl,
      eq-eqb h.ordinal h.ordinal refl,
    )
    (ap (λ (rs : List Pool). record { first = record_of h d; rest = rs } ∷ live_lots rest) (pools_from h ms))

-- the live lots of the records laid out
pub lots_flat : (s : Brought → Bool) (hs : List Brought) → Apart hs → live_lots (flat s hs) ≡ map laid_lot (keep s hs)
lots_flat s [] a = refl
lots_flat s (h ∷ hs) a = go (s h) (lots_flat s hs a.1)
  where
    other : (l : LiveLot) → l ∈ map laid_lot (keep s hs) → (eqb l.first.message h.id && eqb l.first.ordinal h.ordinal) ≡ false
    other l m =
        let (g, mg, eg) = Memᴰ.of_map laid_lot (keep s hs) m in
        rw (
          ← eg,
          first_from (λ (r : Pool). r.message) g.id g (λ e. refl) g.lot.middles,
          first_from (λ (r : Pool). r.ordinal) g.ordinal g (λ e. refl) g.lot.middles,
        )
        (a.0 g (keep_in s hs mg).0)

    go : (b : Bool) → live_lots (flat s hs) ≡ map laid_lot (keep s hs) → live_lots (cond b (laid h) [] ++ flat s hs) ≡ map laid_lot (cond b (h ∷ keep s hs) (keep s hs))
    go true e = lots_from_law h h.lot.middles (flat s hs) (λ l m. other l (rw e at m)) ∙ ap (λ (ls : List LiveLot). laid_lot h ∷ ls) e
    go false e = e

-- sums over them
pub sum_flat : (value : LiveLot → ℕ) (of : Brought → ℕ) → ((h : Brought) → value (laid_lot h) ≡ of h) → (s : Brought → Bool) (hs : List Brought) → Apart hs
    → sum_of value (live_lots (flat s hs)) ≡ sum_of (λ h. cond (s h) (of h) 0) hs
sum_flat value of k s hs a =
    rw (lots_flat s hs a)
    (sum_map value laid_lot (keep s hs) ∙ sum_same (λ h. value (laid_lot h)) of (keep s hs) (λ h m. k h) ∙ sum_keep of s hs)

pub trade_flat : (value : LiveLot → ℕ) (of : Brought → ℕ) → ((h : Brought) → value (laid_lot h) ≡ of h) → (t : ℕ) (s : Brought → Bool) (hs : List Brought) → Apart hs
    → sum_of value (keep (of_trade t) (live_lots (flat s hs))) ≡ sum_of (λ h. cond (s h) (cond (eqb h.trade t) (of h) 0) 0) hs
trade_flat value of k t s hs a =
    sum_keep value (of_trade t) (live_lots (flat s hs))
    ∙ sum_flat (λ l. cond (of_trade t l) (value l) 0) (λ h. cond (eqb h.trade t) (of h) 0)
    (λ h. rw (k h, first_from (λ (r : Pool). r.trade) h.trade h (λ e. refl) h.lot.middles)) s hs a

pub cond_swap : (s b : Bool) (x : ℕ) → cond s (cond b x 0) 0 ≡ cond b (cond s x 0) 0
cond_swap true b x = refl
cond_swap false true x = refl
cond_swap false false x = refl

-- ---- what a lot counts for: its weight and its millions

weight_from : (h : Brought) (ms : List Detail)
    → live_weight (lot_from h ms) ≡ cond (eqb (kind_number (lot_kind h.lot)) kind_good) (lot_millions h.lot * million_cents) (sum_of current_cents (ms ++ (h.lot.last ∷ [])))
weight_from h [] = refl
weight_from h (d ∷ ms) = rw (sum_map (λ (r : Pool). r.current) (record_of h) (ms ++ (h.lot.last ∷ [])))

pub laid_weight : (h : Brought) → live_weight (laid_lot h) ≡ lot_weight h.lot
unfolding lot_weight
laid_weight h = weight_from h h.lot.middles ∙ go (lot_kind h.lot)
  where
    go : (k : Kind) → cond (eqb (kind_number k) kind_good) (lot_millions h.lot * million_cents) (sum_of current_cents (pools_of h.lot))
        ≡ weight_of k (lot_millions h.lot) (sum_of current_cents (pools_of h.lot))
    go Good = refl
    go Odd = refl
    go Bad = refl

pub laid_millions : (h : Brought) → live_millions (laid_lot h) ≡ lot_millions h.lot
laid_millions h = first_from (λ (r : Pool). r.millions) (lot_millions h.lot) h (λ e. refl) h.lot.middles
