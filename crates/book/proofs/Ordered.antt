-- Order of the live records: to follow is transitive, so each record follows all before it, and what is left of ordered records is ordered.
-- The records of new lots follow each other by their ordinals, and all old ones by their message ID.
use Prim.Native.Nat.{ℕ, ◌+◌, ◌≤◌, ◌<◌}
use mathlib.Core.Path.{◌≡◌, refl, sym, ◌∙◌}
use mathlib.Core.Logic.{◌⊎◌, inl, inr}
use mathlib.Core.List.Memᴰ
use mathlib.Core.List.{List, [], ◌∷◌, ◌++◌, map}
use mathlib.Core.Bool.{Bool, true, ◌&&◌, ◌||◌, and-false}
use native.Mathlib.Omega.{arith}
use native.Mathlib.Decide.{ℕ_discrete, dec_lt}
use lib.Dec.{eqb, leb, ltb}
use borrow.Author.Tests.{ltb-true, leb-true, eqb-true, lt-ltb, le-ltb, le-leb, lt-leb, eq-eqb, ne_eqb}
use Rattle.lists.specs.Lists.{keep, all}
use Rattle.lists.proofs.Tests.{◌∈◌, and_left, and_right, both, implied, all_in, all_out}
use Rattle.layout.specs.declared.Detail.{Detail}
use Rattle.terminator.specs.Lots.{Lot, pools_of}
use Rattle.book.specs.declared.Pool.{Pool}
use Rattle.book.specs.Dues.{Due}
use Rattle.book.specs.Records.{pool_of, records_of, same_lot}
use Rattle.book.specs.Soundness.{not_falling, agree_on_trade, agree_on_lot, follows, in_order}
use Rattle.book.proofs.Dues.{AllTo}
use Rattle.book.proofs.ListLaws.{or_split, or_right, all_keep, all_implied, all_both, all_map, pairwise, pairwise_keep, pairwise_append}

-- ---- the test as an order
abbrev LotAfter : Pool → Pool → Type 0
LotAfter q r = (q.ordinal < r.ordinal) ⊎ ((q.ordinal ≡ r.ordinal) × (q.kind ≡ r.kind) × (q.millions ≡ r.millions))

abbrev After : Pool → Pool → Type 0
After q r = (q.message < r.message) ⊎ ((q.message ≡ r.message) × (q.trade ≡ r.trade) × LotAfter q r)

abbrev lot_follows : Pool → Pool → Bool
lot_follows q r = ltb q.ordinal r.ordinal || (eqb q.ordinal r.ordinal && (eqb q.kind r.kind && eqb q.millions r.millions))

lot_follows_is : (q r : Pool) → lot_follows q r ≡ true → LotAfter q r
lot_follows_is q r e = go (or_split (ltb q.ordinal r.ordinal) (eqb q.ordinal r.ordinal && (eqb q.kind r.kind && eqb q.millions r.millions)) e)
  where
    go : (ltb q.ordinal r.ordinal ≡ true) ⊎ ((eqb q.ordinal r.ordinal && (eqb q.kind r.kind && eqb q.millions r.millions)) ≡ true) → LotAfter q r
    go (inl a) = inl (ltb-true q.ordinal r.ordinal a)
    go (inr a) =
        let k : (eqb q.kind r.kind && eqb q.millions r.millions) ≡ true = and_right (eqb q.ordinal r.ordinal) (eqb q.kind r.kind && eqb q.millions r.millions) a in
        inr (
          eqb-true q.ordinal r.ordinal (and_left (eqb q.ordinal r.ordinal) (eqb q.kind r.kind && eqb q.millions r.millions) a),
          eqb-true q.kind r.kind (and_left (eqb q.kind r.kind) (eqb q.millions r.millions) k),
          eqb-true q.millions r.millions (and_right (eqb q.kind r.kind) (eqb q.millions r.millions) k),
        )

-- the test by cases of the order
pub follows_cases : (q r : Pool) → follows q r ≡ (ltb q.message r.message || (eqb q.message r.message && (eqb q.trade r.trade && lot_follows q r)))
follows_cases q r = go (dec_lt q.message r.message) (ℕ_discrete q.message r.message) (dec_lt q.ordinal r.ordinal) (ℕ_discrete q.ordinal r.ordinal)
  where
    go : Dec (q.message < r.message) → Dec (q.message ≡ r.message) → Dec (q.ordinal < r.ordinal) → Dec (q.ordinal ≡ r.ordinal)
        → follows q r ≡ (ltb q.message r.message || (eqb q.message r.message && (eqb q.trade r.trade && lot_follows q r)))
    go (yes a) b d e = rw (lt-ltb q.message r.message a, ne_eqb q.message r.message (λ p. omega arith))
    go (no a) (no b) d e = rw (le-ltb q.message r.message (omega arith), ne_eqb q.message r.message b)
    go (no a) (yes b) (yes d) e =
        rw (le-ltb q.message r.message (omega arith), eq-eqb q.message r.message b, le-leb q.ordinal r.ordinal (omega arith), ne_eqb q.ordinal r.ordinal (λ p. omega arith), lt-ltb q.ordinal r.ordinal d)
    go (no a) (yes b) (no d) (yes e) =
        rw (le-ltb q.message r.message (omega arith), eq-eqb q.message r.message b, le-leb q.ordinal r.ordinal (omega arith), eq-eqb q.ordinal r.ordinal e, le-ltb q.ordinal r.ordinal (omega arith))
    go (no a) (yes b) (no d) (no e) =
        rw (le-ltb q.message r.message (omega arith), eq-eqb q.message r.message b, lt-leb q.ordinal r.ordinal (omega arith), ne_eqb q.ordinal r.ordinal e, le-ltb q.ordinal r.ordinal (omega arith))
        (sym (and-false (eqb q.trade r.trade)))

follows_is : (q r : Pool) → follows q r ≡ true → After q r
follows_is q r e = go (or_split (ltb q.message r.message) (eqb q.message r.message && (eqb q.trade r.trade && lot_follows q r)) (sym (follows_cases q r) ∙ e))
  where
    go : (ltb q.message r.message ≡ true) ⊎ ((eqb q.message r.message && (eqb q.trade r.trade && lot_follows q r)) ≡ true) → After q r
    go (inl a) = inl (ltb-true q.message r.message a)
    go (inr a) =
        let k : (eqb q.trade r.trade && lot_follows q r) ≡ true = and_right (eqb q.message r.message) (eqb q.trade r.trade && lot_follows q r) a in
        inr (
          eqb-true q.message r.message (and_left (eqb q.message r.message) (eqb q.trade r.trade && lot_follows q r) a),
          eqb-true q.trade r.trade (and_left (eqb q.trade r.trade) (lot_follows q r) k),
          lot_follows_is q r (and_right (eqb q.trade r.trade) (lot_follows q r) k),
        )

-- what follows has no smaller message ID
pub follows_message : (q r : Pool) → follows q r ≡ true → q.message ≤ r.message
follows_message q r e = go (follows_is q r e)
  where
    go : After q r → q.message ≤ r.message
    go (inl a) = omega (arith, a)
    go (inr a) = omega (arith, a.0)

-- within a message no smaller ordinal, and the same trade
module _ (q r : Pool) (e : follows q r ≡ true) (m : q.message ≡ r.message) where
  pub follows_ordinal : q.ordinal ≤ r.ordinal
  follows_ordinal = go (or_split (ltb q.message r.message) (eqb q.message r.message && leb q.ordinal r.ordinal) (and_left (not_falling q r) (agree_on_trade q r && agree_on_lot q r) e))
    where
      go : (ltb q.message r.message ≡ true) ⊎ ((eqb q.message r.message && leb q.ordinal r.ordinal) ≡ true) → q.ordinal ≤ r.ordinal
      go (inl a) = absurd (omega (arith, ltb-true q.message r.message a))
      go (inr a) = leb-true q.ordinal r.ordinal (and_right (eqb q.message r.message) (leb q.ordinal r.ordinal) a)

  pub follows_trade : q.trade ≡ r.trade
  follows_trade =
      eqb-true q.trade r.trade
      (implied (eqb q.message r.message) (eqb q.trade r.trade)
      (and_left (agree_on_trade q r) (agree_on_lot q r) (and_right (not_falling q r) (agree_on_trade q r && agree_on_lot q r) e))
      (eq-eqb q.message r.message m))

-- ---- records of one lot
pub lot_parts : (q r : Pool) → same_lot q r ≡ true → (q.message ≡ r.message) × (q.ordinal ≡ r.ordinal)
lot_parts q r e =
    (eqb-true q.message r.message (and_left (eqb q.message r.message) (eqb q.ordinal r.ordinal) e), eqb-true q.ordinal r.ordinal (and_right (eqb q.message r.message) (eqb q.ordinal r.ordinal) e))

pub is_lot_law : (q r : Pool) → q.message ≡ r.message → q.ordinal ≡ r.ordinal → same_lot q r ≡ true
is_lot_law q r m o = both (eqb q.message r.message) (eqb q.ordinal r.ordinal) (eq-eqb q.message r.message m) (eq-eqb q.ordinal r.ordinal o)

pub lot_refl : (r : Pool) → same_lot r r ≡ true
lot_refl r = is_lot_law r r refl refl

pub lot_sym : (q r : Pool) → same_lot q r ≡ true → same_lot r q ≡ true
lot_sym q r e = let p = lot_parts q r e in is_lot_law r q (sym p.0) (sym p.1)

pub lot_trans : (q r s : Pool) → same_lot q r ≡ true → same_lot r s ≡ true → same_lot q s ≡ true
lot_trans q r s e f = let p = lot_parts q r e in let o = lot_parts r s f in is_lot_law q s (p.0 ∙ o.0) (p.1 ∙ o.1)

-- they agree on kind and millions
pub follows_lot : (q r : Pool) → follows q r ≡ true → same_lot q r ≡ true → (q.kind ≡ r.kind) × (q.millions ≡ r.millions)
follows_lot q r e s =
    let k = implied (same_lot q r) (eqb q.kind r.kind && eqb q.millions r.millions)
    (and_right (agree_on_trade q r) (agree_on_lot q r) (and_right (not_falling q r) (agree_on_trade q r && agree_on_lot q r) e)) s in
    (eqb-true q.kind r.kind (and_left (eqb q.kind r.kind) (eqb q.millions r.millions) k), eqb-true q.millions r.millions (and_right (eqb q.kind r.kind) (eqb q.millions r.millions) k))

-- what comes between two records of a lot is of that lot
pub lot_between : (q r s : Pool) → follows q r ≡ true → follows r s ≡ true → same_lot q s ≡ true → same_lot q r ≡ true
lot_between q r s e f l =
    let p = lot_parts q s l in
    let m : q.message ≡ r.message = omega (arith, follows_message q r e, follows_message r s f, p.0) in
    is_lot_law q r m (omega (arith, follows_ordinal q r e m, follows_ordinal r s f (sym m ∙ p.0), p.1))

is_lot_follows : (q r : Pool) → LotAfter q r → lot_follows q r ≡ true
is_lot_follows q r (inl a) = rw (lt-ltb q.ordinal r.ordinal a)
is_lot_follows q r (inr (a, b, d)) =
    or_right (ltb q.ordinal r.ordinal) (eqb q.ordinal r.ordinal && (eqb q.kind r.kind && eqb q.millions r.millions))
    (rw (eq-eqb q.ordinal r.ordinal a, eq-eqb q.kind r.kind b, eq-eqb q.millions r.millions d))

is_follows : (q r : Pool) → After q r → follows q r ≡ true
is_follows q r (inl a) = follows_cases q r ∙ rw (lt-ltb q.message r.message a)
is_follows q r (inr (a, b, d)) =
    follows_cases q r
    ∙ or_right (ltb q.message r.message) (eqb q.message r.message && (eqb q.trade r.trade && lot_follows q r))
    (rw (eq-eqb q.message r.message a, eq-eqb q.trade r.trade b) (is_lot_follows q r d))

lot_after_trans : (q r s : Pool) → LotAfter q r → LotAfter r s → LotAfter q s
lot_after_trans q r s (inl a) (inl b) = inl (omega arith)
lot_after_trans q r s (inl a) (inr (b, k, m)) = inl (omega arith)
lot_after_trans q r s (inr (a, k, m)) (inl b) = inl (omega arith)
lot_after_trans q r s (inr (a, k, m)) (inr (b, l, n)) = inr (a ∙ b, k ∙ l, m ∙ n)

after_trans : (q r s : Pool) → After q r → After r s → After q s
after_trans q r s (inl a) (inl b) = inl (omega arith)
after_trans q r s (inl a) (inr (b, t, l)) = inl (omega arith)
after_trans q r s (inr (a, t, l)) (inl b) = inl (omega arith)
after_trans q r s (inr (a, t, l)) (inr (b, u, k)) = inr (a ∙ b, t ∙ u, lot_after_trans q r s l k)

pub follows_trans : (q r s : Pool) → follows q r ≡ true → follows r s ≡ true → follows q s ≡ true
follows_trans q r s e f = is_follows q s (after_trans q r s (follows_is q r e) (follows_is r s f))

-- ---- each record before all that come later
abbrev pub chained : List Pool → Bool
chained = pairwise follows

pub order_chained : (rs : List Pool) → in_order rs ≡ true → chained rs ≡ true
order_chained [] e = refl
order_chained (q ∷ []) e = refl
order_chained (q ∷ r ∷ rs) e =
    let near : follows q r ≡ true = and_left (follows q r) (in_order (r ∷ rs)) e in
    let below : chained (r ∷ rs) ≡ true = order_chained (r ∷ rs) (and_right (follows q r) (in_order (r ∷ rs)) e) in
    both (all (follows q) (r ∷ rs)) (chained (r ∷ rs))
    (both (follows q r) (all (follows q) rs) near (all_implied (follows r) (follows q) (λ (s : Pool) h. follows_trans q r s near h) rs (and_left (all (follows r) rs) (chained rs) below)))
    below

chained_order : (rs : List Pool) → chained rs ≡ true → in_order rs ≡ true
chained_order [] e = refl
chained_order (q ∷ []) e = refl
chained_order (q ∷ r ∷ rs) e =
    both (follows q r) (in_order (r ∷ rs))
    (and_left (follows q r) (all (follows q) rs) (and_left (all (follows q) (r ∷ rs)) (chained (r ∷ rs)) e))
    (chained_order (r ∷ rs) (and_right (all (follows q) (r ∷ rs)) (chained (r ∷ rs)) e))

pub ordered_keep : (p : Pool → Bool) (rs : List Pool) → in_order rs ≡ true → in_order (keep p rs) ≡ true
ordered_keep p rs e = chained_order (keep p rs) (pairwise_keep follows p rs (order_chained rs e))

-- ---- the records of new lots
-- a record under a message ID, with an ordinal from a number on
abbrev pub is_from : ℕ → ℕ → Pool → Bool
is_from id o r = eqb r.message id && leb o r.ordinal

from_next : (id o : ℕ) (r : Pool) → is_from id (o + 1) r ≡ true → is_from id o r ≡ true
from_next id o r e =
    let g : o + 1 ≤ r.ordinal = leb-true (o + 1) r.ordinal (and_right (eqb r.message id) (leb (o + 1) r.ordinal) e) in
    rw (and_left (eqb r.message id) (leb (o + 1) r.ordinal) e, le-leb o r.ordinal (omega arith))

pub records_from_law : (id o : ℕ) (ds : List Due) → all (is_from id o) (records_of id o ds) ≡ true
records_from_law id o [] = refl
records_from_law id o (d ∷ ds) =
    all_both (is_from id o) (map (pool_of id o d.to d.lot) (pools_of d.lot)) (records_of id (o + 1) ds)
    (all_map (is_from id o) (pool_of id o d.to d.lot) (λ (p : Detail). rw (eq-eqb id id refl, le-leb o o (omega arith))) (pools_of d.lot))
    (all_implied (is_from id (o + 1)) (is_from id o) (from_next id o) (records_of id (o + 1) ds) (records_from_law id (o + 1) ds))

-- lots due to one trade have records of that trade
abbrev is_of : ℕ → Pool → Bool
is_of t r = eqb r.trade t

records_of_law : (id o t : ℕ) (ds : List Due) → AllTo t ds → all (is_of t) (records_of id o ds) ≡ true
records_of_law id o t [] k = refl
records_of_law id o t (d ∷ ds) k =
    all_both (is_of t) (map (pool_of id o d.to d.lot) (pools_of d.lot)) (records_of id (o + 1) ds)
    (all_map (is_of t) (pool_of id o d.to d.lot) (λ (p : Detail). eq-eqb d.to t (k d (Memᴰ.head refl))) (pools_of d.lot))
    (records_of_law id (o + 1) t ds (λ e m. k e (Memᴰ.tail m)))

follows_from : (id t o : ℕ) (l : Lot) (d : Detail) (r : Pool) → is_from id (o + 1) r ≡ true → r.trade ≡ t → follows (pool_of id o t l d) r ≡ true
follows_from id t o l d r e u =
    let m : r.message ≡ id = eqb-true r.message id (and_left (eqb r.message id) (leb (o + 1) r.ordinal) e) in
    let g : o + 1 ≤ r.ordinal = leb-true (o + 1) r.ordinal (and_right (eqb r.message id) (leb (o + 1) r.ordinal) e) in
    is_follows (pool_of id o t l d) r (inr (sym m, sym u, inl (omega arith)))

lot_chained : (id t o : ℕ) (l : Lot) (ds : List Detail) → chained (map (pool_of id o t l) ds) ≡ true
lot_chained id t o l [] = refl
lot_chained id t o l (d ∷ ds) =
    both (all (follows (pool_of id o t l d)) (map (pool_of id o t l) ds)) (chained (map (pool_of id o t l) ds))
    (all_map (follows (pool_of id o t l d)) (pool_of id o t l) (λ (e : Detail). is_follows (pool_of id o t l d) (pool_of id o t l e) (inr (refl, refl, inr (refl, refl, refl)))) ds)
    (lot_chained id t o l ds)

records_chained : (id o t : ℕ) (ds : List Due) → AllTo t ds → chained (records_of id o ds) ≡ true
records_chained id o t [] k = refl
records_chained id o t (d ∷ ds) k =
    pairwise_append follows (map (pool_of id o d.to d.lot) (pools_of d.lot)) (records_of id (o + 1) ds) (lot_chained id d.to o d.lot (pools_of d.lot))
    (records_chained id (o + 1) t ds rest)
    (all_map (λ (q : Pool). all (follows q) (records_of id (o + 1) ds)) (pool_of id o d.to d.lot)
    (λ (p : Detail). all_in (follows (pool_of id o d.to d.lot p)) (records_of id (o + 1) ds)
    (λ r m. follows_from id d.to o d.lot p r (all_out (is_from id (o + 1)) m (records_from_law id (o + 1) ds)) (here r m)))
    (pools_of d.lot))
  where
    rest : AllTo t ds
    rest e m = k e (Memᴰ.tail m)

    here : (r : Pool) → r ∈ records_of id (o + 1) ds → r.trade ≡ d.to
    here r m = eqb-true r.trade t (all_out (is_of t) m (records_of_law id (o + 1) t ds rest)) ∙ sym (k d (Memᴰ.head refl))

-- ---- old records, then new ones
abbrev pub is_old : ℕ → Pool → Bool
is_old last r = leb r.message last

old_before : (last : ℕ) (q r : Pool) → is_old last q ≡ true → is_from (last + 1) 1 r ≡ true → follows q r ≡ true
old_before last q r e f =
    let m : r.message ≡ last + 1 = eqb-true r.message (last + 1) (and_left (eqb r.message (last + 1)) (leb 1 r.ordinal) f) in
    let h : q.message ≤ last = leb-true q.message last e in
    is_follows q r (inl (omega arith))

pub ordered_after : (last t : ℕ) (p : Pool → Bool) (rs : List Pool) (ds : List Due) → AllTo t ds → all (is_old last) rs ≡ true → in_order rs ≡ true
    → in_order (keep p rs ++ records_of (last + 1) 1 ds) ≡ true
ordered_after last t p rs ds k old e =
    let new : List Pool = records_of (last + 1) 1 ds in
    chained_order (keep p rs ++ new)
    (pairwise_append follows (keep p rs) new (pairwise_keep follows p rs (order_chained rs e)) (records_chained (last + 1) 1 t ds k)
    (all_implied (is_old last) (λ (q : Pool). all (follows q) new)
    (λ (q : Pool) h. all_implied (is_from (last + 1) 1) (follows q) (λ (r : Pool) f. old_before last q r h f) new (records_from_law (last + 1) 1 ds))
    (keep p rs) (all_keep (is_old last) p rs old)))
