-- The records of new lots are fine by themselves: a lot ends in an end, which has a kind and millions, and a face has eleven digits.
-- Old records stay fine, since the last message ID only grows.
use Rattle.std.specs.Prelude.{Option, Some, None}
use Prim.Native.Nat.{ℕ, zero, suc, ◌+◌, ◌≤◌, ◌<◌}
use mathlib.Core.Path.{◌≡◌, refl, ap, ◌∙◌}
use mathlib.Core.List.Memᴰ
use mathlib.Core.List.{List, [], ◌∷◌, ◌++◌, map}
use mathlib.Core.Bool.{Bool, true, false, cond, ◌&&◌, ◌||◌, false≢true}
use native.Mathlib.Omega.{arith}
use lib.Dec.{eqb, leb, ltb}
use borrow.Author.Tests.{leb-true, le-leb, lt-ltb, eqb-false}
use Rattle.lists.specs.Lists.{all, between}
use Rattle.lists.proofs.Tests.{◌∈◌, and_left, and_right, both}
use Rattle.fields.specs.Fields.{read_number}
use Rattle.layout.specs.declared.Detail.{Detail}
use Rattle.terminator.specs.declared.Terminator.{Terminator}
use Rattle.terminator.specs.declared.Terminator.TheVariants.{Middle, BadMiddle, GoodEnd, OddEnd, BadEnd, Wrong}
use Rattle.terminator.specs.Terminators.{positions, positions_of, terminator_of, is_end, kind_of, millions_of, term}
use Rattle.terminator.specs.Lots.{Lot, pools_of, lots_from, lots, current_cents}
use Rattle.terminator.proofs.Found.{cents_small}
use Rattle.faces.specs.Faces.{is_new_lot, new_lots}
use Rattle.book.specs.declared.Values.{Values}
use Rattle.book.specs.declared.Pool.{Pool}
use Rattle.book.specs.Dues.{Due}
use Rattle.book.specs.Records.{kind_good, kind_odd, kind_bad, kind_number, pool_of, records_of}
use Rattle.book.specs.Opening.{eleven_digits_max}
use Rattle.book.specs.Soundness.{kind_fine, record_fine}
use Rattle.book.proofs.Dues.{due_lots}
use Rattle.book.proofs.ListLaws.{all_keep, all_both, all_map}

-- ---- what an end gives
abbrev kinds_fine : ℕ → ℕ → Bool
kinds_fine kind millions = (eqb kind kind_good && between 1 99 millions) || ((eqb kind kind_odd || eqb kind kind_bad) && eqb millions 0)

abbrev gives : Terminator → Bool
gives t = kinds_fine (kind_number (kind_of t)) (millions_of t)

high_gives : (a b d : Bool) → is_end (cond a BadMiddle (cond b BadEnd (cond d OddEnd Wrong))) ≡ true → gives (cond a BadMiddle (cond b BadEnd (cond d OddEnd Wrong))) ≡ true
high_gives true b d e = absurd (false≢true e)
high_gives false true d e = refl
high_gives false false true e = refl
high_gives false false false e = absurd (false≢true e)

positions_give : (n : ℕ) → is_end (positions n) ≡ true → gives (positions n) ≡ true
unfolding positions
positions_give n h = go (eqb n 0) refl (leb n 99) refl h
  where
    go : (none : Bool) → eqb n 0 ≡ none → (low : Bool) → leb n 99 ≡ low
        → is_end (cond none Middle (cond low (GoodEnd n) (cond (eqb n 888) BadMiddle (cond (eqb n 889) BadEnd (cond (eqb n 999) OddEnd Wrong))))) ≡ true
        → gives (cond none Middle (cond low (GoodEnd n) (cond (eqb n 888) BadMiddle (cond (eqb n 889) BadEnd (cond (eqb n 999) OddEnd Wrong))))) ≡ true
    go true e low f g = absurd (false≢true g)
    go false e true f g =
        let p : n ≡ 0 → ⊥ = eqb-false n 0 e in
        let q : leb 1 n ≡ true = le-leb 1 n (some n p) in
        rw (q, f)
      where
        some : (m : ℕ) → (m ≡ 0 → ⊥) → 1 ≤ m
        some zero k = absurd (k refl)
        some (suc m) k = omega arith
    go false e false f g = high_gives (eqb n 888) (eqb n 889) (eqb n 999) g

pub term_gives : (d : Detail) → is_end (term d) ≡ true → gives (term d) ≡ true
unfolding terminator_of
term_gives d = go (read_number d.terminator 1 3)
  where
    go : (f : Option ℕ) → is_end (positions_of f) ≡ true → gives (positions_of f) ≡ true
    go (Some n) e = positions_give n e
    go None e = absurd (false≢true e)

-- ---- every lot ends in an end
abbrev pub has_end : Lot → Bool
has_end l = is_end (term l.last)

ends_from : (ms ds : List Detail) → all has_end (lots_from ms ds) ≡ true
ends_from ms [] = refl
ends_from ms (d ∷ ds) = go (is_end (term d)) refl (ends_from [] ds) (ends_from (ms ++ (d ∷ [])) ds)
  where
    go : (b : Bool) → is_end (term d) ≡ b → all has_end (lots_from [] ds) ≡ true → all has_end (lots_from (ms ++ (d ∷ [])) ds) ≡ true
        → all has_end (cond b (record { middles = ms; last = d } ∷ lots_from [] ds) (lots_from (ms ++ (d ∷ [])) ds)) ≡ true
    go true e h k = both (is_end (term d)) (all has_end (lots_from [] ds)) e h
    go false e h k = k

pub new_ends : (ds : List Detail) → all has_end (new_lots ds) ≡ true
unfolding lots
new_ends ds = all_keep has_end is_new_lot (lots_from [] ds) (ends_from [] ds)

-- ---- records
pub records_fine : (v : Values) (id o : ℕ) (us : List Due) → ((u : Due) → u ∈ us → u.to < v.lent.trade_count) → between 1 v.last_message_id id ≡ true → 1 ≤ o
    → all has_end (due_lots us) ≡ true → all (record_fine v) (records_of id o us) ≡ true
records_fine v id o [] et ei ho e = refl
records_fine v id o (u ∷ us) et ei ho e =
    all_both (record_fine v) (map (pool_of id o u.to u.lot) (pools_of u.lot)) (records_of id (o + 1) us)
    (all_map (record_fine v) (pool_of id o u.to u.lot) one (pools_of u.lot))
    (records_fine v id (o + 1) us (λ w m. et w (Memᴰ.tail m)) ei (omega arith) (and_right (has_end u.lot) (all has_end (due_lots us)) e))
  where
    one : (d : Detail) → record_fine v (pool_of id o u.to u.lot d) ≡ true
    one d =
        let t : ltb u.to v.lent.trade_count ≡ true = lt-ltb u.to v.lent.trade_count (et u (Memᴰ.head refl)) in
        let a : leb 1 o ≡ true = le-leb 1 o ho in
        let k : current_cents d < 100000000000 = cents_small d in
        let b : leb (current_cents d) eleven_digits_max ≡ true = le-leb (current_cents d) eleven_digits_max (omega arith) in
        rw (t, ei, a, b) (term_gives u.lot.last (and_left (has_end u.lot) (all has_end (due_lots us)) e))

pub record_stays : (v w : Values) → w.lent.trade_count ≡ v.lent.trade_count → v.last_message_id ≤ w.last_message_id → (r : Pool) → record_fine v r ≡ true → record_fine w r ≡ true
record_stays v w ec h r e =
    let k : (between 1 v.last_message_id r.message && (leb 1 r.ordinal && (leb r.current eleven_digits_max && kind_fine r))) ≡ true =
    and_right (ltb r.trade v.lent.trade_count) (between 1 v.last_message_id r.message && (leb 1 r.ordinal && (leb r.current eleven_digits_max && kind_fine r))) e in
    let m : between 1 v.last_message_id r.message ≡ true = and_left (between 1 v.last_message_id r.message) (leb 1 r.ordinal && (leb r.current eleven_digits_max && kind_fine r)) k in
    let n : r.message ≤ v.last_message_id = leb-true r.message v.last_message_id (and_right (leb 1 r.message) (leb r.message v.last_message_id) m) in
    let t : ltb r.trade w.lent.trade_count ≡ true = ap (ltb r.trade) ec ∙ and_left (ltb r.trade v.lent.trade_count) (between 1 v.last_message_id r.message && (leb 1 r.ordinal && (leb r.current eleven_digits_max && kind_fine r))) e in
    rw (t, and_left (leb 1 r.message) (leb r.message v.last_message_id) m, le-leb r.message w.last_message_id (omega arith))
    (and_right (between 1 v.last_message_id r.message) (leb 1 r.ordinal && (leb r.current eleven_digits_max && kind_fine r)) k)

-- a live record's message ID is at most the last
pub record_old : (v : Values) (r : Pool) → record_fine v r ≡ true → leb r.message v.last_message_id ≡ true
record_old v r e =
    let k : (between 1 v.last_message_id r.message && (leb 1 r.ordinal && (leb r.current eleven_digits_max && kind_fine r))) ≡ true =
    and_right (ltb r.trade v.lent.trade_count) (between 1 v.last_message_id r.message && (leb 1 r.ordinal && (leb r.current eleven_digits_max && kind_fine r))) e in
    and_right (leb 1 r.message) (leb r.message v.last_message_id) (and_left (between 1 v.last_message_id r.message) (leb 1 r.ordinal && (leb r.current eleven_digits_max && kind_fine r)) k)
