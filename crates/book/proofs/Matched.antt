-- Matched fields: under one message ID they stay apart, since those of a message's new pools are (36) and old records have other IDs;
-- and the records that a message takes off are at least as many as the fields that it lists, since each of them is live and none is listed twice (37).
use Rattle.std.specs.Prelude.{Option}
use Prim.Native.Nat.{ℕ, ◌+◌, ◌≤◌}
use mathlib.Core.Path.{◌≡◌, refl, sym, ap, ap₂, ◌∙◌}
use mathlib.Core.List.{List, [], ◌∷◌, ◌++◌, map, map-append, map-map}
use mathlib.Core.Bool.{Bool, true, false, not, ◌&&◌, and-false}
use native.Mathlib.Omega.{arith}
use lib.Dec.{eqb, leb}
use lib.ListN.{length}
use borrow.Author.Tests.{eqb-true, leb-true, ne_eqb, not-true}
use Rattle.lists.specs.Lists.{same, keep, any, all}
use Rattle.lists.proofs.Tests.{and_left, and_right, both, same_equal}
use Rattle.terminator.specs.Lots.{pools_of}
use Rattle.book.specs.declared.Pool.{Pool}
use Rattle.book.specs.Dues.{Due}
use Rattle.book.specs.Records.{Fields, live_fields, same_fields, has_fields, distinct, pool_of, records_of}
use Rattle.book.specs.Messages.{under}
use Rattle.book.specs.Soundness.{fields_once}
use Rattle.book.specs.Checks.{is_taken}
use Rattle.book.specs.History.{fields_of_lots}
use Rattle.book.proofs.Dues.{due_lots}
use Rattle.book.proofs.ByRecord.{all_live}
use Rattle.book.proofs.ListLaws.{or_left, or_right, all_keep, all_implied, not_any, keep_some, keep_two, pairwise, pairwise_keep, pairwise_append, pairwise_map}
use Rattle.book.proofs.Ordered.{is_from, records_from_law, is_old}

-- ---- equal fields
pub fields_equal : (f g : Fields) → same_fields f g ≡ true → f ≡ g
fields_equal f g e =
    let r : (same f.pool g.pool && same f.original g.original) ≡ true = and_right (same f.lot g.lot) (same f.pool g.pool && same f.original g.original) e in
    let a : f.lot ≡ g.lot = same_equal f.lot g.lot (and_left (same f.lot g.lot) (same f.pool g.pool && same f.original g.original) e) in
    let b : f.pool ≡ g.pool = same_equal f.pool g.pool (and_left (same f.pool g.pool) (same f.original g.original) r) in
    let d : f.original ≡ g.original = same_equal f.original g.original (and_right (same f.pool g.pool) (same f.original g.original) r) in
    λ i. record { lot = a i; pool = b i; original = d i }

-- ---- fields once
-- whether two records have one message ID and equal fields
abbrev pub collides : Pool → Pool → Bool
collides r s = eqb r.message s.message && same_fields (live_fields r) (live_fields s)

abbrev pub apart : Pool → Pool → Bool
apart r s = not (collides r s)

pub once_apart : (rs : List Pool) → fields_once rs ≡ pairwise apart rs
once_apart [] = refl
once_apart (r ∷ rs) = ap₂ (λ (a b : Bool). a && b) (not_any (collides r) rs) (once_apart rs)

abbrev other_fields : Fields → Fields → Bool
other_fields f g = not (same_fields f g)

distinct_apart : (fs : List Fields) → distinct fs ≡ pairwise other_fields fs
distinct_apart [] = refl
distinct_apart (f ∷ fs) = ap₂ (λ (a b : Bool). a && b) (not_any (same_fields f) fs) (distinct_apart fs)

pub records_fields : (id o : ℕ) (ds : List Due) → map live_fields (records_of id o ds) ≡ fields_of_lots (due_lots ds)
records_fields id o [] = refl
records_fields id o (d ∷ ds) =
    map-append live_fields (map (pool_of id o d.to d.lot) (pools_of d.lot)) (records_of id (o + 1) ds)
    ∙ rw (records_fields id (o + 1) ds, map-map live_fields (pool_of id o d.to d.lot) (pools_of d.lot))

other_apart : (r s : Pool) → other_fields (live_fields r) (live_fields s) ≡ true → apart r s ≡ true
other_apart r s e = rw (not-true (same_fields (live_fields r) (live_fields s)) e, and-false (eqb r.message s.message))

new_apart : (id o : ℕ) (ds : List Due) → distinct (fields_of_lots (due_lots ds)) ≡ true → pairwise apart (records_of id o ds) ≡ true
new_apart id o ds e =
    pairwise_map apart other_fields live_fields other_apart (records_of id o ds)
    (ap (pairwise other_fields) (records_fields id o ds) ∙ sym (distinct_apart (fields_of_lots (due_lots ds))) ∙ e)

old_apart : (last : ℕ) (q r : Pool) → is_old last q ≡ true → is_from (last + 1) 1 r ≡ true → apart q r ≡ true
old_apart last q r e f =
    let m : r.message ≡ last + 1 = eqb-true r.message (last + 1) (and_left (eqb r.message (last + 1)) (leb 1 r.ordinal) f) in
    let h : q.message ≤ last = leb-true q.message last e in
    rw (ne_eqb q.message r.message (λ p. omega arith))

pub once_after : (last : ℕ) (p : Pool → Bool) (rs : List Pool) (ds : List Due) → all (is_old last) rs ≡ true → fields_once rs ≡ true → distinct (fields_of_lots (due_lots ds)) ≡ true
    → fields_once (keep p rs ++ records_of (last + 1) 1 ds) ≡ true
once_after last p rs ds old e d =
    let new : List Pool = records_of (last + 1) 1 ds in
    once_apart (keep p rs ++ new)
    ∙ pairwise_append apart (keep p rs) new (pairwise_keep apart p rs (sym (once_apart rs) ∙ e)) (new_apart (last + 1) 1 ds d)
    (all_implied (is_old last) (λ (q : Pool). all (apart q) new)
    (λ (q : Pool) h. all_implied (is_from (last + 1) 1) (apart q) (λ (r : Pool) f. old_apart last q r h f) new (records_from_law (last + 1) 1 ds))
    (keep p rs) (all_keep (is_old last) p rs old))

-- ---- the records taken off
module _ (tgt : Option ℕ) where
  -- a record under the target with given fields
  abbrev is_the : Fields → Pool → Bool
  is_the f r = under tgt r && same_fields (live_fields r) f

  taken_first : (f : Fields) (fs : List Fields) (r : Pool) → is_the f r ≡ true → is_taken tgt (f ∷ fs) r ≡ true
  taken_first f fs r e =
      both (under tgt r) (has_fields (live_fields r) (f ∷ fs)) (and_left (under tgt r) (same_fields (live_fields r) f) e)
      (or_left (same_fields (live_fields r) f) (has_fields (live_fields r) fs) (and_right (under tgt r) (same_fields (live_fields r) f) e))

  taken_later : (f : Fields) (fs : List Fields) (r : Pool) → is_taken tgt fs r ≡ true → is_taken tgt (f ∷ fs) r ≡ true
  taken_later f fs r e =
      both (under tgt r) (has_fields (live_fields r) (f ∷ fs)) (and_left (under tgt r) (has_fields (live_fields r) fs) e)
      (or_right (same_fields (live_fields r) f) (has_fields (live_fields r) fs) (and_right (under tgt r) (has_fields (live_fields r) fs) e))

  taken_once : (f : Fields) (fs : List Fields) → has_fields f fs ≡ false → (r : Pool) → is_the f r ≡ true → is_taken tgt fs r ≡ false
  taken_once f fs n r e =
      rw (fields_equal (live_fields r) f (and_right (under tgt r) (same_fields (live_fields r) f) e), n) (and-false (under tgt r))

  pub taken_enough : (fs : List Fields) (rs : List Pool) → all_live tgt fs rs ≡ true → distinct fs ≡ true → length fs ≤ length (keep (is_taken tgt fs) rs)
  taken_enough [] rs a d = omega arith
  taken_enough (f ∷ fs) rs a d =
      let h : length fs ≤ length (keep (is_taken tgt fs) rs) =
      taken_enough fs rs (and_right (any (is_the f) rs) (all_live tgt fs rs) a) (and_right (not (has_fields f fs)) (distinct fs) d) in
      let s : 1 ≤ length (keep (is_the f) rs) = keep_some (is_the f) rs (and_left (any (is_the f) rs) (all_live tgt fs rs) a) in
      let n : has_fields f fs ≡ false = not-true (has_fields f fs) (and_left (not (has_fields f fs)) (distinct fs) d) in
      let k : length (keep (is_the f) rs) + length (keep (is_taken tgt fs) rs) ≤ length (keep (is_taken tgt (f ∷ fs)) rs) =
      keep_two (is_the f) (is_taken tgt fs) (is_taken tgt (f ∷ fs)) (taken_once f fs n) (taken_first f fs) (taken_later f fs) rs in
      omega arith
