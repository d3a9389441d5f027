-- A CC: each 6 lot is one whole live lot of the same millions (37), so the lots that it takes off have the millions of its 6 lots, and those of its new lots (21);
-- and every group goes to the target's trade, since its 6 lots are among the target's.
use Rattle.std.specs.Prelude.{Option}
use mathlib.Core.Path.{◌≡◌, refl, sym, ap, ◌∙◌}
use mathlib.Core.Bool.{Bool, true, false, cond, ◌&&◌, ◌||◌, false≢true, and-false}
use mathlib.Core.List.Memᴰ
use mathlib.Core.List.{List, [], ◌∷◌, ◌++◌, map, map-append}
use Prim.Native.Nat.{ℕ, ◌+◌}
use native.Mathlib.Omega.{arith}
use lib.Dec.{eqb, leb}
use lib.ListN.{length}
use borrow.Author.Tests.{eq-eqb, eqb-true}
use Rattle.lists.specs.Lists.{keep, any, all, sum_of}
use Rattle.lists.proofs.Tests.{◌∈◌, and_left, and_right, both, all_out, all_right, any_in, any_none, any_append, any_or, keep_in, keep_first, sum_append, sum_same, sum_add, sum_zero}
use Rattle.layout.specs.declared.Detail.{Detail}
use Rattle.terminator.specs.Lots.{Lot, pools_of, lot_kind, lot_millions}
use Rattle.terminator.specs.Groups.{Group, group_formed, group_balanced}
use Rattle.book.specs.declared.Pool.{Pool}
use Rattle.book.specs.Dues.{due}
use Rattle.book.specs.Records.{Fields, fields_of, live_fields, same_fields, has_fields, distinct, kind_number, join_lot, live_lots, live_millions}
use Rattle.book.specs.Messages.{under}
use Rattle.book.specs.Checks.{is_taken, lot_fields}
use Rattle.book.specs.History.{Brought, is_target, touches, stands, trade_of_first, fields_of_lots, due_by_groups}
use Rattle.book.proofs.ByRecord.{all_live, whole_lots, first_ordinal, one_by_record}
use Rattle.book.proofs.Pools.{canceled_of, replacement_of}
use Rattle.book.proofs.Targets.{has_in, has_out, last_fields, distinct_right, distinct_cross, fields_of_lots_append, target_one}
use Rattle.book.proofs.Laid.{record_of, flat, in_flat, sum_flat, laid_millions}
use Rattle.book.proofs.Taking.{Lots, is_listed, touches_target, touches_pool, listed_lot, gone, taken_flat, whole_or_none}

-- records of one message ID and ordinal are one live lot
one_live : (r : Pool) (rs : List Pool) → ((s : Pool) → s ∈ rs → (s.message ≡ r.message) × (s.ordinal ≡ r.ordinal)) → live_lots (r ∷ rs) ≡ record { first = r; rest = rs } ∷ []
one_live r [] k = refl
one_live r (s ∷ rs) k =
    let p = k s (Memᴰ.head refl) in
    ap (join_lot r) (one_live s rs (λ u m. let q = k u (Memᴰ.tail m) in (q.0 ∙ sym p.0, q.1 ∙ sym p.1)))
    ∙ rw (eq-eqb s.message r.message p.0, eq-eqb s.ordinal r.ordinal p.1)

-- ---- touched by the fields of two lots
touches_append : (tgt : Option ℕ) (fs gs : List Fields) (h : Brought) → touches tgt (fs ++ gs) h ≡ (touches tgt fs h || touches tgt gs h)
touches_append tgt fs gs h =
    ap (λ (b : Bool). is_target tgt h.id && b) (of (pools_of h.lot))
    ∙ go (is_target tgt h.id) (any (is_listed fs) (pools_of h.lot)) (any (is_listed gs) (pools_of h.lot))
  where
    of : (ds : List Detail) → any (is_listed (fs ++ gs)) ds ≡ (any (is_listed fs) ds || any (is_listed gs) ds)
    of ds = (λ i. any (λ (d : Detail). any_append (same_fields (fields_of d)) fs gs i) ds) ∙ any_or (is_listed fs) (is_listed gs) ds

    go : (a b c : Bool) → (a && (b || c)) ≡ ((a && b) || (a && c))
    go true b c = refl
    go false b c = refl

module _ (n last : ℕ) (tgt : Option ℕ) (hs : List Brought) (lots : Lots n last hs) where
  -- the lots that a 6 lot takes off have its millions
  gone_one : (l : Lot) → any (is_taken tgt (lot_fields l)) (flat stands hs) ≡ true → one_by_record tgt (flat stands hs) l ≡ true → sum_of (gone tgt (lot_fields l) lot_millions) hs ≡ lot_millions l
  gone_one l some one = go (keep_first q F some)
    where
      F : List Pool
      F = flat stands hs

      q : Pool → Bool
      q = is_taken tgt (lot_fields l)

      alike : Pool → Bool
      alike r = eqb r.ordinal (first_ordinal (keep q F)) && (eqb r.kind (kind_number (lot_kind l)) && eqb r.millions (lot_millions l))

      whole : whole_lots tgt (lot_fields l) F ≡ true
      whole = and_left (whole_lots tgt (lot_fields l) F) (all alike (keep q F)) one

      each : (r : Pool) → r ∈ keep q F → (r.ordinal ≡ first_ordinal (keep q F)) × (r.millions ≡ lot_millions l)
      each r m =
          let t = all_out alike m (and_right (whole_lots tgt (lot_fields l) F) (all alike (keep q F)) one) in
          let u = and_right (eqb r.ordinal (first_ordinal (keep q F))) (eqb r.kind (kind_number (lot_kind l)) && eqb r.millions (lot_millions l)) t in (
            eqb-true r.ordinal (first_ordinal (keep q F)) (and_left (eqb r.ordinal (first_ordinal (keep q F))) (eqb r.kind (kind_number (lot_kind l)) && eqb r.millions (lot_millions l)) t),
            eqb-true r.millions (lot_millions l) (and_right (eqb r.kind (kind_number (lot_kind l))) (eqb r.millions (lot_millions l)) u),
          )

      at : (r : Pool) → q r ≡ true → is_target tgt r.message ≡ true
      at r e = and_left (under tgt r) (has_fields (live_fields r) (lot_fields l)) e

      sum_is : sum_of live_millions (live_lots (keep q F)) ≡ sum_of (gone tgt (lot_fields l) lot_millions) hs
      sum_is = rw (taken_flat tgt (lot_fields l) hs whole) (sum_flat live_millions (λ h. lot_millions h.lot) laid_millions (λ h. stands h && touches tgt (lot_fields l) h) hs lots.apart)

      go : (r : Pool) × (r ∈ F) × (q r ≡ true) × ((rs : List Pool) × (keep q F ≡ r ∷ rs)) → sum_of (gone tgt (lot_fields l) lot_millions) hs ≡ lot_millions l
      go (r, mr, er, (rs, k)) =
          let alone : live_lots (keep q F) ≡ record { first = r; rest = rs } ∷ [] =
          ap live_lots k
          ∙ one_live r rs
          (λ s ms.
          let mk : s ∈ keep q F = rw k (Memᴰ.tail ms) in
          (target_one tgt s.message r.message (at s (keep_in q F mk).1) (at r er), (each s mk).0 ∙ ap first_ordinal k)) in
          sym sum_is ∙ ap (sum_of live_millions) alone ∙ omega (arith, (each r (rw k (Memᴰ.head refl))).1)

  -- a standing lot that one 6 lot takes whole is touched by no other
  apart_lots : (fs gs : List Fields) → whole_lots tgt fs (flat stands hs) ≡ true → distinct (fs ++ gs) ≡ true → (h : Brought) → h ∈ hs → stands h ≡ true
      → touches tgt fs h ≡ true → touches tgt gs h ≡ true → ⊥
  apart_lots fs gs w di h m s e₁ e₂ =
      let (d, md, ed) = touches_pool tgt gs h e₂ in
      let t = whole_or_none tgt fs hs w h m s true e₁ (record_of h d) (Memᴰ.map (record_of h) md) in
      distinct_cross fs gs di (has_out (fields_of d) fs (and_right (under tgt (record_of h d)) (is_listed fs d) t)) (has_out (fields_of d) gs ed)

  gone_add : (fs gs : List Fields) → whole_lots tgt fs (flat stands hs) ≡ true → distinct (fs ++ gs) ≡ true
      → sum_of (gone tgt (fs ++ gs) lot_millions) hs ≡ sum_of (gone tgt fs lot_millions) hs + sum_of (gone tgt gs lot_millions) hs
  gone_add fs gs w di =
      sum_same (gone tgt (fs ++ gs) lot_millions) (λ h. gone tgt fs lot_millions h + gone tgt gs lot_millions h) hs
      (λ h m. rw (touches_append tgt fs gs h) (go h m (stands h) (touches tgt fs h) (touches tgt gs h) refl refl refl))
      ∙ sum_add (gone tgt fs lot_millions) (gone tgt gs lot_millions) hs
    where
      go : (h : Brought) → h ∈ hs → (s a b : Bool) → stands h ≡ s → touches tgt fs h ≡ a → touches tgt gs h ≡ b
          → cond (s && (a || b)) (lot_millions h.lot) 0 ≡ cond (s && a) (lot_millions h.lot) 0 + cond (s && b) (lot_millions h.lot) 0
      go h m true true true es ea eb = absurd (apart_lots fs gs w di h m es ea eb)
      go h m true true false es ea eb = omega arith
      go h m true false b es ea eb = omega arith
      go h m false a b es ea eb = refl

  -- fields that are listed are of a live record, and of a lot that is touched
  some_taken : (fs : List Fields) → all_live tgt fs (flat stands hs) ≡ true → (gs : List Fields) (f : Fields) → f ∈ fs → f ∈ gs → any (is_taken tgt gs) (flat stands hs) ≡ true
  some_taken fs li gs f m k =
      let (h, mh, sh, th, (d, md, ed)) = listed_lot tgt fs hs li f m in
      any_in (is_taken tgt gs) (in_flat stands mh sh (Memᴰ.map (record_of h) md))
      (both (under tgt (record_of h d)) (is_listed gs d) th (rw ed (has_in k)))

  some_touched : (fs : List Fields) → all_live tgt fs (flat stands hs) ≡ true → (gs : List Fields) (f : Fields) → f ∈ fs → f ∈ gs → any (touches tgt gs) hs ≡ true
  some_touched fs li gs f m k =
      let (h, mh, sh, th, (d, md, ed)) = listed_lot tgt fs hs li f m in
      any_in (touches tgt gs) mh (both (is_target tgt h.id) (any (is_listed gs) (pools_of h.lot)) th (any_in (is_listed gs) md (rw ed (has_in k))))

  -- all 6 lots together
  pub gone_canceled : (ls : List Lot) → all_live tgt (fields_of_lots ls) (flat stands hs) ≡ true → distinct (fields_of_lots ls) ≡ true → all (one_by_record tgt (flat stands hs)) ls ≡ true
      → sum_of (gone tgt (fields_of_lots ls) lot_millions) hs ≡ sum_of lot_millions ls
  gone_canceled [] li di on =
      sum_same (gone tgt [] lot_millions) (λ h. 0) hs
      (λ h m. rw (any_none (is_listed []) (pools_of h.lot) (λ d. refl), and-false (is_target tgt h.id), and-false (stands h)))
      ∙ sum_zero hs
  gone_canceled (l ∷ ls) li di on =
      gone_add (lot_fields l) (fields_of_lots ls) (and_left (whole_lots tgt (lot_fields l) (flat stands hs)) _ (and_left (one_by_record tgt (flat stands hs) l) (all (one_by_record tgt (flat stands hs)) ls) on)) di
      ∙ rw (
        gone_one l (some_taken (fields_of_lots (l ∷ ls)) li (lot_fields l) (fields_of l.last) (Memᴰ.append_left (fields_of_lots ls) (last_fields l)) (last_fields l))
            (and_left (one_by_record tgt (flat stands hs) l) (all (one_by_record tgt (flat stands hs)) ls) on),
        gone_canceled ls (all_right _ (lot_fields l) (fields_of_lots ls) li) (distinct_right (lot_fields l) (fields_of_lots ls) di)
            (and_right (one_by_record tgt (flat stands hs) l) (all (one_by_record tgt (flat stands hs)) ls) on),
      )

  -- every group's new lots go to the target's trade
  pub due_there : (t : ℕ) → ((g : Brought) → g ∈ hs → is_target tgt g.id ≡ true → g.trade ≡ t) → (fs : List Fields) → all_live tgt fs (flat stands hs) ≡ true
      → (gs : List Group) → all group_formed gs ≡ true → ((f : Fields) → f ∈ fields_of_lots (canceled_of gs) → f ∈ fs)
      → due_by_groups tgt hs gs ≡ map (due t) (replacement_of gs)
  due_there t there fs li [] ne sub = refl
  due_there t there fs li (g ∷ gs) ne sub =
      rw (
        map-append (due t) g.replacement (replacement_of gs),
        mine,
        due_there t there fs li gs (and_right (group_formed g) (all group_formed gs) ne)
            (λ f m. sub f (rw (fields_of_lots_append g.canceled (canceled_of gs)) (Memᴰ.append_right (fields_of_lots g.canceled) m))),
      )
    where
      some : (ls : List Lot) → leb 1 (length ls) ≡ true → (f : Fields) × (f ∈ fields_of_lots ls)
      some [] e = absurd (false≢true e)
      some (l ∷ ls) e = (fields_of l.last, Memᴰ.append_left (fields_of_lots ls) (last_fields l))

      cs : List Fields
      cs = fields_of_lots g.canceled

      first : (h : Brought) × (h ∈ hs) × (touches tgt cs h ≡ true) × ((xs : List Brought) × (keep (touches tgt cs) hs ≡ h ∷ xs)) → trade_of_first (keep (touches tgt cs) hs) ≡ t
      first (h, mh, eh, (xs, k)) = rw k (there h mh (touches_target tgt cs h eh))

      mine : trade_of_first (keep (touches tgt cs) hs) ≡ t
      mine =
          let (f, m) = some g.canceled (search (and_left, and_right)) in
          first (keep_first (touches tgt cs) hs (some_touched fs li cs f (sub f (rw (fields_of_lots_append g.canceled (canceled_of gs)) (Memᴰ.append_left (fields_of_lots (canceled_of gs)) m))) m))

-- in each group, and so in all together, the canceled millions are those that replace them
pub groups_even : (gs : List Group) → all group_balanced gs ≡ true → sum_of lot_millions (canceled_of gs) ≡ sum_of lot_millions (replacement_of gs)
groups_even [] e = refl
groups_even (g ∷ gs) e =
    omega (
      arith,
      sum_append lot_millions g.canceled (canceled_of gs),
      sum_append lot_millions g.replacement (replacement_of gs),
      eqb-true (sum_of lot_millions g.canceled) (sum_of lot_millions g.replacement) (and_left (group_balanced g) (all group_balanced gs) e),
      groups_even gs (and_right (group_balanced g) (all group_balanced gs) e),
    )
