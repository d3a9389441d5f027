-- Matched fields and targets: the tests decide equality, so a pool that is listed once is one pool, and a target names one message.
use Rattle.std.specs.Prelude.{Option, is_some, unwrap_or}
use mathlib.Core.Path.{◌≡◌, refl, sym, ap, ◌∙◌}
use mathlib.Core.Logic.{◌⊎◌, inl, inr}
use mathlib.Core.Bool.{true, not}
use mathlib.Core.List.Memᴰ
use mathlib.Core.List.{List, [], ◌∷◌, ◌++◌, append_assoc}
use Prim.Native.Nat.{ℕ}
use borrow.Author.Tests.{eqb-true, not-true}
use Rattle.lists.specs.Lists.{keep, all}
use Rattle.lists.proofs.Tests.{◌∈◌, and_left, and_right, both, clash, all_out, any_in, any_out, any_append, keep_in, same_refl}
use Rattle.terminator.specs.Lots.{Lot}
use Rattle.book.specs.declared.Pool.{Pool}
use Rattle.book.specs.Records.{Fields, fields_of, same_fields, has_fields, distinct}
use Rattle.book.specs.Messages.{target_of, under}
use Rattle.book.specs.Soundness.{follows, in_order}
use Rattle.book.specs.Checks.{first_under, target_trade, lot_fields}
use Rattle.book.specs.History.{is_target, fields_of_lots}
use Rattle.book.proofs.ListLaws.{neither_left, keep_member}
use Rattle.book.proofs.Ordered.{chained, order_chained, ordered_keep, follows_trade}
use Rattle.book.proofs.Matched.{fields_equal}

-- ---- matched fields

pub fields_refl : (f : Fields) → same_fields f f ≡ true
fields_refl f = rw (same_refl f.lot, same_refl f.pool, same_refl f.original)

pub has_in : {f : Fields} {fs : List Fields} → f ∈ fs → has_fields f fs ≡ true
has_in {f} m = any_in (same_fields f) m (fields_refl f)

pub has_out : (f : Fields) (fs : List Fields) → has_fields f fs ≡ true → f ∈ fs
has_out f fs e = let (g, m, p) = any_out (same_fields f) fs e in Memᴰ.cast (fields_equal f g p) m

-- ---- distinctness

pub distinct_right : (xs ys : List Fields) → distinct (xs ++ ys) ≡ true → distinct ys ≡ true
distinct_right [] ys d = d
distinct_right (x ∷ xs) ys d = distinct_right xs ys (and_right (not (has_fields x (xs ++ ys))) (distinct (xs ++ ys)) d)

pub distinct_cross : {f : Fields} (xs ys : List Fields) → distinct (xs ++ ys) ≡ true → f ∈ xs → f ∈ ys → ⊥
distinct_cross [] ys d m n = Memᴰ.not-nil m
distinct_cross {f} (x ∷ xs) ys d m n =
    go (Memᴰ.cases_cons m) (λ m'. distinct_cross xs ys (and_right (not (has_fields x (xs ++ ys))) (distinct (xs ++ ys)) d) m' n)
  where
    go : (f ≡ x) ⊎ (f ∈ xs) → (f ∈ xs → ⊥) → ⊥
    go (inl e) below = clash (rw e at (has_in (Memᴰ.append_right xs n))) (not-true (has_fields x (xs ++ ys)) (and_left (not (has_fields x (xs ++ ys))) (distinct (xs ++ ys)) d))
    go (inr m') below = below m'

pub distinct_left : (xs ys : List Fields) → distinct (xs ++ ys) ≡ true → distinct xs ≡ true
distinct_left [] ys d = refl
distinct_left (x ∷ xs) ys d =
    both (not (has_fields x xs)) (distinct xs)
    (ap not (neither_left (has_fields x xs) (has_fields x ys) (sym (any_append (same_fields x) xs ys) ∙ not-true (has_fields x (xs ++ ys)) (and_left (not (has_fields x (xs ++ ys))) (distinct (xs ++ ys)) d))))
    (distinct_left xs ys (and_right (not (has_fields x (xs ++ ys))) (distinct (xs ++ ys)) d))

-- ---- the fields of lots

-- every lot has a pool
pub last_fields : (l : Lot) → fields_of l.last ∈ lot_fields l
last_fields l = Memᴰ.map fields_of (Memᴰ.append_right l.middles (Memᴰ.head refl))

-- the fields of one of them are once where those of all are
pub distinct_lot : {l : Lot} {ls : List Lot} → l ∈ ls → distinct (fields_of_lots ls) ≡ true → distinct (lot_fields l) ≡ true
distinct_lot {l} (Memᴰ.head {x = x} {xs = ls} e) d = rw e (distinct_left (lot_fields x) (fields_of_lots ls) d)
distinct_lot (Memᴰ.tail {x = x} {xs = ls} m) d = distinct_lot m (distinct_right (lot_fields x) (fields_of_lots ls) d)

pub in_fields_of_lots : {f : Fields} {l : Lot} {ls : List Lot} → l ∈ ls → f ∈ lot_fields l → f ∈ fields_of_lots ls
in_fields_of_lots {f} {l} (Memᴰ.head {x = x} {xs = ls} e) m = Memᴰ.append_left {s = lot_fields x} (fields_of_lots ls) (rw e at m)
in_fields_of_lots (Memᴰ.tail {x = x} n) m = Memᴰ.append_right (lot_fields x) (in_fields_of_lots n m)

pub fields_of_lots_append : (xs ys : List Lot) → fields_of_lots (xs ++ ys) ≡ fields_of_lots xs ++ fields_of_lots ys
fields_of_lots_append [] ys = refl
fields_of_lots_append (x ∷ xs) ys = rw (fields_of_lots_append xs ys) (sym (append_assoc (lot_fields x) (fields_of_lots xs) (fields_of_lots ys)))

-- ---- targets

pub target_one : (tgt : Option ℕ) (i j : ℕ) → is_target tgt i ≡ true → is_target tgt j ≡ true → i ≡ j
target_one tgt i j p q = eqb-true i (unwrap_or tgt 0) (and_right (is_some tgt) _ p) ∙ sym (eqb-true j (unwrap_or tgt 0) (and_right (is_some tgt) _ q))

-- the records under a target have one message ID
pub under_one : (tgt : Option ℕ) (q r : Pool) → under tgt q ≡ true → under tgt r ≡ true → q.message ≡ r.message
under_one tgt q r a b = target_one tgt q.message r.message a b

pub under_message : (tgt : Option ℕ) (q r : Pool) → under tgt q ≡ true → q.message ≡ r.message → under tgt r ≡ true
under_message tgt q r a e = rw e at a

-- on records in order they have one trade, the target's
pub under_trade : (body : List ℕ) (rs : List Pool) → in_order rs ≡ true → (r : Pool) → r ∈ rs → under (target_of body) r ≡ true → r.trade ≡ target_trade body rs
unfolding target_trade
under_trade body rs e r m u = go (keep (under (target_of body)) rs) (order_chained (keep (under (target_of body)) rs) (ordered_keep (under (target_of body)) rs e)) (keep_member (under (target_of body)) m u) (λ q n. (keep_in (under (target_of body)) rs n).1)
  where
    go : (ks : List Pool) → chained ks ≡ true → r ∈ ks → ((q : Pool) → q ∈ ks → under (target_of body) q ≡ true) → r.trade ≡ first_under ks
    go [] c n k = absurd (Memᴰ.not-nil n)
    go (q ∷ ks) c n k = by (Memᴰ.cases_cons n)
      where
        by : (r ≡ q) ⊎ (r ∈ ks) → r.trade ≡ q.trade
        by (inl p) = ap (λ (x : Pool). x.trade) p
        by (inr p) =
            sym (follows_trade q r (all_out (follows q) p (and_left (all (follows q) ks) (chained ks) c)) (under_one (target_of body) q r (k q (Memᴰ.head refl)) u))
