-- Live lots. Every record is of one of them; where the records are in order, a live lot has all records of its message ID and ordinal, which agree on kind
-- and millions. So 37 over the target's live lots says what it says record by record.
use Rattle.std.specs.Prelude.{Option}
use mathlib.Core.Path.{◌≡◌, refl, sym, ap, ◌∙◌}
use mathlib.Core.Logic.{◌⊎◌, inl, inr}
use mathlib.Core.List.Memᴰ
use mathlib.Core.List.{List, [], ◌∷◌, ◌++◌}
use mathlib.Core.Bool.{Bool, true, false, cond, not, ◌&&◌, ◌||◌}
use Prim.Native.Nat.{ℕ}
use lib.Dec.{eqb}
use borrow.Author.Tests.{eq-eqb, eqb-true, not-true}
use Rattle.lists.specs.Lists.{keep, any, all}
use Rattle.lists.proofs.Tests.{◌∈◌, and_left, and_right, both, clash, un_true, implied, all_in, all_out, any_in, any_out, keep_in}
use Rattle.layout.specs.Details.{details}
use Rattle.terminator.specs.Lots.{Lot, lot_kind, lot_millions, formed_for}
use Rattle.message_type.specs.declared.MessageType.{MessageType}
use Rattle.message_type.specs.declared.MessageType.TheVariants.{On, Cc, Dk, Cx, Other}
use Rattle.book.specs.declared.Pool.{Pool}
use Rattle.book.specs.Records.{Fields, fields_of, live_fields, same_fields, has_fields, distinct, kind_number, same_lot, LiveLot, live_pools, join_lot, live_lots}
use Rattle.book.specs.Messages.{type_of, target_of, under, listed}
use Rattle.book.specs.Soundness.{follows, in_order, fields_once}
use Rattle.book.specs.Checks.{is_taken, live_lot_fields, fields_of_live, each_once, is_listed_in, exact_lots, lot_fields, is_lot, one_lot, canceled_lots, listed_fine}
use Rattle.message_type.specs.Questions.{is_cc}
use Rattle.book.specs.History.{fields_of_lots}
use Rattle.book.proofs.ByRecord.{all_live, whole_lots, exact_by_record, first_ordinal, one_by_record, listed_by_record}
use Rattle.book.proofs.ListLaws.{alike, implies, all_same, keep_member, pairwise}
use Rattle.book.proofs.Pools.{listed_as, canceled_fields}
use Rattle.book.proofs.Ordered.{chained, order_chained, ordered_keep, lot_parts, is_lot_law, lot_refl, lot_sym, lot_trans, follows_lot, lot_between}
use Rattle.book.proofs.Matched.{fields_equal, collides, apart, once_apart}
use Rattle.book.proofs.Targets.{fields_refl, has_in, has_out, last_fields, in_fields_of_lots, distinct_lot, under_one, under_message}

-- ---- the lots of any records
abbrev pub alone : Pool → LiveLot
alone r = record { first = r; rest = [] }

abbrev pub joined : Pool → LiveLot → LiveLot
joined r k = record { first = r; rest = live_pools k }

-- a lot after a record has joined: one of those before, or one that it begins, with the records of a lot that it joined
abbrev Begun : Pool → List LiveLot → LiveLot → Type 0
Begun r ls l = (l.first ≡ r) × ((s : Pool) → s ∈ l.rest → (k : LiveLot) × (k ∈ ls) × (same_lot k.first r ≡ true) × (s ∈ live_pools k))

join_cases : (r : Pool) (ls : List LiveLot) (l : LiveLot) → l ∈ join_lot r ls → (l ∈ ls) ⊎ Begun r ls l
join_cases r [] l m = go (Memᴰ.cases_cons m)
  where
    go : (l ≡ alone r) ⊎ (l ∈ []) → (l ∈ []) ⊎ Begun r [] l
    go (inl e) = inr (rw e (refl, λ s n. absurd (Memᴰ.not-nil n)))
    go (inr n) = inl n
join_cases r (k ∷ ks) l m = go (same_lot k.first r) refl m
  where
    one : (l ≡ alone r) ⊎ (l ∈ (k ∷ ks)) → (l ∈ (k ∷ ks)) ⊎ Begun r (k ∷ ks) l
    one (inl e) = inr (rw e (refl, λ s n. absurd (Memᴰ.not-nil n)))
    one (inr n) = inl n

    two : same_lot k.first r ≡ true → (l ≡ joined r k) ⊎ (l ∈ ks) → (l ∈ (k ∷ ks)) ⊎ Begun r (k ∷ ks) l
    two t (inl e) = inr (rw e (refl, λ s n. (k, Memᴰ.head refl, t, n)))
    two t (inr n) = inl (Memᴰ.tail n)

    go : (b : Bool) → same_lot k.first r ≡ b → l ∈ cond b (joined r k ∷ ks) (alone r ∷ (k ∷ ks)) → (l ∈ (k ∷ ks)) ⊎ Begun r (k ∷ ks) l
    go true t n = two t (Memᴰ.cases_cons n)
    go false t n = one (Memᴰ.cases_cons n)

-- the record is in one of them, and so are those that were in one before
join_own : (r : Pool) (ls : List LiveLot) → (l : LiveLot) × (l ∈ join_lot r ls) × (r ∈ live_pools l)
join_own r [] = (alone r, Memᴰ.head refl, Memᴰ.head refl)
join_own r (k ∷ ks) = go (same_lot k.first r)
  where
    go : (b : Bool) → (l : LiveLot) × (l ∈ cond b (joined r k ∷ ks) (alone r ∷ (k ∷ ks))) × (r ∈ live_pools l)
    go true = (joined r k, Memᴰ.head refl, Memᴰ.head refl)
    go false = (alone r, Memᴰ.head refl, Memᴰ.head refl)

join_keeps : (r : Pool) (ls : List LiveLot) (l : LiveLot) (s : Pool) → l ∈ ls → s ∈ live_pools l → (h : LiveLot) × (h ∈ join_lot r ls) × (s ∈ live_pools h)
join_keeps r [] l s m n = absurd (Memᴰ.not-nil m)
join_keeps r (k ∷ ks) l s m n = go (same_lot k.first r) (Memᴰ.cases_cons m)
  where
    go : (b : Bool) → (l ≡ k) ⊎ (l ∈ ks) → (h : LiveLot) × (h ∈ cond b (joined r k ∷ ks) (alone r ∷ (k ∷ ks))) × (s ∈ live_pools h)
    go true (inl e) = (joined r k, Memᴰ.head refl, Memᴰ.tail (rw e at n))
    go true (inr o) = (l, Memᴰ.tail o, n)
    go false e = (l, Memᴰ.tail m, n)

in_live : (rs : List Pool) (r : Pool) → r ∈ rs → (l : LiveLot) × (l ∈ live_lots rs) × (r ∈ live_pools l)
in_live [] r m = absurd (Memᴰ.not-nil m)
in_live (q ∷ rs) r m = go (Memᴰ.cases_cons m) (in_live rs r)
  where
    go : (r ≡ q) ⊎ (r ∈ rs) → (r ∈ rs → (l : LiveLot) × (l ∈ live_lots rs) × (r ∈ live_pools l)) → (l : LiveLot) × (l ∈ join_lot q (live_lots rs)) × (r ∈ live_pools l)
    go (inl e) below = rw e (join_own q (live_lots rs))
    go (inr n) below = let (l, ml, rl) = below n in join_keeps q (live_lots rs) l r ml rl

live_in : (rs : List Pool) (l : LiveLot) → l ∈ live_lots rs → (r : Pool) → r ∈ live_pools l → r ∈ rs
live_in [] l m r n = absurd (Memᴰ.not-nil m)
live_in (q ∷ rs) l m r n = go (join_cases q (live_lots rs) l m) (Memᴰ.cases_cons n) (λ k mk. live_in rs k mk r)
  where
    go : (l ∈ live_lots rs) ⊎ Begun q (live_lots rs) l → (r ≡ l.first) ⊎ (r ∈ l.rest) → ((k : LiveLot) → k ∈ live_lots rs → r ∈ live_pools k → r ∈ rs) → r ∈ (q ∷ rs)
    go (inl o) w below = Memᴰ.tail (below l o n)
    go (inr (e, f)) (inl p) below = Memᴰ.head (p ∙ e)
    go (inr (e, f)) (inr o) below = let (k, mk, t, w) = f r o in Memᴰ.tail (below k mk w)

-- the records of a live lot are of one lot
live_lot : (rs : List Pool) (l : LiveLot) → l ∈ live_lots rs → (r : Pool) → r ∈ live_pools l → same_lot l.first r ≡ true
live_lot [] l m r n = absurd (Memᴰ.not-nil m)
live_lot (q ∷ rs) l m r n = go (join_cases q (live_lots rs) l m) (Memᴰ.cases_cons n) (λ k mk. live_lot rs k mk r)
  where
    go : (l ∈ live_lots rs) ⊎ Begun q (live_lots rs) l → (r ≡ l.first) ⊎ (r ∈ l.rest) → ((k : LiveLot) → k ∈ live_lots rs → r ∈ live_pools k → same_lot k.first r ≡ true)
        → same_lot l.first r ≡ true
    go (inl o) w below = below l o n
    go (inr (e, f)) (inl p) below = rw p (lot_refl l.first)
    go (inr (e, f)) (inr o) below = let (k, mk, t, w) = f r o in rw e (lot_trans q k.first r (lot_sym k.first q t) (below k mk w))

-- ---- the lots of ordered records
-- each lot before the others, and not one of them
abbrev LotsApart : List LiveLot → Type 0
LotsApart [] = Unit
LotsApart (l ∷ ls) = ((m : LiveLot) → m ∈ ls → (follows l.first m.first ≡ true) × (same_lot l.first m.first ≡ false)) × LotsApart ls

live_apart : (rs : List Pool) → chained rs ≡ true → LotsApart (live_lots rs)
live_apart [] e = tt
live_apart (q ∷ rs) e =
    go (live_lots rs) (live_apart rs (and_right (all (follows q) rs) (chained rs) e))
    (λ l m. all_out (follows q) (live_in rs l m l.first (Memᴰ.head refl)) (and_left (all (follows q) rs) (chained rs) e))
  where
    go : (ls : List LiveLot) → LotsApart ls → ((l : LiveLot) → l ∈ ls → follows q l.first ≡ true) → LotsApart (join_lot q ls)
    go [] a f = (λ m n. absurd (Memᴰ.not-nil n), tt)
    go (k ∷ ks) a f = by (same_lot k.first q) refl
      where
        nearer : (m : LiveLot) → (m ≡ k) ⊎ (m ∈ ks) → same_lot q m.first ≡ true → same_lot k.first q ≡ true
        nearer m (inl p) t = lot_sym q k.first (rw p at t)
        nearer m (inr n) t = lot_sym q k.first (lot_between q k.first m.first (f k (Memᴰ.head refl)) (a.0 m n).0 t)

        by : (b : Bool) → same_lot k.first q ≡ b → LotsApart (cond b (joined q k ∷ ks) (alone q ∷ (k ∷ ks)))
        by true s =
            (λ m n. (f m (Memᴰ.tail n), un_true (same_lot q m.first) (λ t. clash (lot_trans k.first q m.first s t) (a.0 m n).1)), a.1)
        by false s = (λ m n. (f m n, un_true (same_lot q m.first) (λ t. clash (nearer m (Memᴰ.cases_cons n) t) s)), a)

lots_one : (ls : List LiveLot) → LotsApart ls → (l m : LiveLot) → l ∈ ls → m ∈ ls → same_lot l.first m.first ≡ true → l ≡ m
lots_one [] a l m x y s = absurd (Memᴰ.not-nil x)
lots_one (k ∷ ks) a l m x y s = go (Memᴰ.cases_cons x) (Memᴰ.cases_cons y) (λ n o. lots_one ks a.1 l m n o s)
  where
    go : (l ≡ k) ⊎ (l ∈ ks) → (m ≡ k) ⊎ (m ∈ ks) → (l ∈ ks → m ∈ ks → l ≡ m) → l ≡ m
    go (inl e) (inl f) below = e ∙ sym f
    go (inl e) (inr n) below = clash (rw e at s) (a.0 m n).1
    go (inr n) (inl f) below = clash (lot_sym l.first k.first (rw f at s)) (a.0 l n).1
    go (inr n) (inr o) below = below n o

-- a live lot has all records of its lot
live_all : (rs : List Pool) → in_order rs ≡ true → (l : LiveLot) → l ∈ live_lots rs → (r s : Pool) → r ∈ live_pools l → s ∈ rs → same_lot r s ≡ true → s ∈ live_pools l
live_all rs order l ml r s mr ms e =
    let (m, mm, sm) = in_live rs s ms in
    let same : l ≡ m =
    lots_one (live_lots rs) (live_apart rs (order_chained rs order)) l m ml mm
    (lot_trans l.first s m.first (lot_trans l.first r s (live_lot rs l ml r mr) e) (lot_sym m.first s (live_lot rs m mm s sm))) in
    rw same sm

-- they agree on kind and millions
live_agree : (rs : List Pool) → chained rs ≡ true → (l : LiveLot) → l ∈ live_lots rs → (r : Pool) → r ∈ live_pools l → (l.first.kind ≡ r.kind) × (l.first.millions ≡ r.millions)
live_agree [] e l m r n = absurd (Memᴰ.not-nil m)
live_agree (q ∷ rs) e l m r n = go (join_cases q (live_lots rs) l m) (Memᴰ.cases_cons n) (λ k mk. live_agree rs (and_right (all (follows q) rs) (chained rs) e) k mk r)
  where
    go : (l ∈ live_lots rs) ⊎ Begun q (live_lots rs) l → (r ≡ l.first) ⊎ (r ∈ l.rest)
        → ((k : LiveLot) → k ∈ live_lots rs → r ∈ live_pools k → (k.first.kind ≡ r.kind) × (k.first.millions ≡ r.millions))
        → (l.first.kind ≡ r.kind) × (l.first.millions ≡ r.millions)
    go (inl o) w below = below l o n
    go (inr (p, f)) (inl u) below = (rw u, rw u)
    go (inr (p, f)) (inr o) below =
        let (k, mk, t, w) = f r o in
        let near = follows_lot q k.first (all_out (follows q) (live_in rs k mk k.first (Memᴰ.head refl)) (and_left (all (follows q) rs) (chained rs) e)) (lot_sym k.first q t) in
        let far = below k mk w in
        rw p (near.0 ∙ far.0, near.1 ∙ far.1)

-- matched fields once: two records of a message with equal fields are one
once_same : (rs : List Pool) → pairwise apart rs ≡ true → (r s : Pool) → r ∈ rs → s ∈ rs → r.message ≡ s.message → live_fields r ≡ live_fields s → r ≡ s
once_same [] e r s m n p q = absurd (Memᴰ.not-nil m)
once_same (x ∷ xs) e r s m n p q = go (Memᴰ.cases_cons m) (Memᴰ.cases_cons n) (λ o u. once_same xs (and_right (all (apart x) xs) (pairwise apart xs) e) r s o u p q)
  where
    collide : (a b : Pool) → a.message ≡ b.message → live_fields a ≡ live_fields b → collides a b ≡ true
    collide a b u v =
        both (eqb a.message b.message) (same_fields (live_fields a) (live_fields b)) (eq-eqb a.message b.message u)
        (ap (λ (f : Fields). same_fields f (live_fields b)) v ∙ fields_refl (live_fields b))

    never : (b : Pool) → b ∈ xs → collides x b ≡ true → r ≡ s
    never b o t = clash t (not-true (collides x b) (all_out (apart x) o (and_left (all (apart x) xs) (pairwise apart xs) e)))

    go : (r ≡ x) ⊎ (r ∈ xs) → (s ≡ x) ⊎ (s ∈ xs) → (r ∈ xs → s ∈ xs → r ≡ s) → r ≡ s
    go (inl a) (inl b) below = a ∙ sym b
    go (inl a) (inr o) below = never s o (rw a at (collide r s p q))
    go (inr o) (inl b) below = never r o (rw b at (collide s r (sym p) (sym q)))
    go (inr o) (inr u) below = below o u

-- ---- fields of live lots
fields_in : (ls : List LiveLot) (l : LiveLot) (r : Pool) → l ∈ ls → r ∈ live_pools l → live_fields r ∈ fields_of_live ls
fields_in [] l r m n = absurd (Memᴰ.not-nil m)
fields_in (k ∷ ks) l r m n = go (Memᴰ.cases_cons m) (λ o. fields_in ks l r o n)
  where
    go : (l ≡ k) ⊎ (l ∈ ks) → (l ∈ ks → live_fields r ∈ fields_of_live ks) → live_fields r ∈ (live_lot_fields k ++ fields_of_live ks)
    go (inl e) below = Memᴰ.append_left (fields_of_live ks) (Memᴰ.map live_fields (rw e at n))
    go (inr o) below = Memᴰ.append_right (live_lot_fields k) (below o)

fields_out : (ls : List LiveLot) (f : Fields) → f ∈ fields_of_live ls → (l : LiveLot) × (l ∈ ls) × ((r : Pool) × (r ∈ live_pools l) × (live_fields r ≡ f))
fields_out [] f m = absurd (Memᴰ.not-nil m)
fields_out (k ∷ ks) f m = go (Memᴰ.append_cases (live_lot_fields k) m) (fields_out ks f)
  where
    go : (f ∈ live_lot_fields k) ⊎ (f ∈ fields_of_live ks) → (f ∈ fields_of_live ks → (l : LiveLot) × (l ∈ ks) × ((r : Pool) × (r ∈ live_pools l) × (live_fields r ≡ f)))
        → (l : LiveLot) × (l ∈ (k ∷ ks)) × ((r : Pool) × (r ∈ live_pools l) × (live_fields r ≡ f))
    go (inl o) below = (k, Memᴰ.head refl, Memᴰ.of_map live_fields (live_pools k) o)
    go (inr o) below = let (l, ml, w) = below o in (l, Memᴰ.tail ml, w)

-- ---- 37
module _ (tgt : Option ℕ) (rs : List Pool) (order : in_order rs ≡ true) (once : fields_once rs ≡ true) where
  abbrev target_pools : List Pool
  target_pools = keep (under tgt) rs

  in_target : (r : Pool) → r ∈ rs → under tgt r ≡ true → r ∈ target_pools
  in_target r m u = keep_member (under tgt) m u

  under_lot : (r s : Pool) → under tgt r ≡ true → same_lot r s ≡ true → under tgt s ≡ true
  under_lot r s u e = under_message tgt r s u (lot_parts r s e).0

  lot_all : (l : LiveLot) → l ∈ live_lots target_pools → (r s : Pool) → r ∈ live_pools l → s ∈ target_pools → same_lot r s ≡ true → s ∈ live_pools l
  lot_all = live_all target_pools (ordered_keep (under tgt) rs order)

  -- fields that are live have their record
  live_record : (fs : List Fields) → all_live tgt fs rs ≡ true → (f : Fields) → f ∈ fs → (r : Pool) × (r ∈ rs) × (under tgt r ≡ true) × (live_fields r ≡ f)
  live_record fs li f m =
      let (r, mr, er) = any_out (λ (r : Pool). under tgt r && same_fields (live_fields r) f) rs (all_out (λ (g : Fields). any (λ (r : Pool). under tgt r && same_fields (live_fields r) g) rs) m li) in
      (r, mr, and_left (under tgt r) (same_fields (live_fields r) f) er, fields_equal (live_fields r) f (and_right (under tgt r) (same_fields (live_fields r) f) er))

  is_live : (f : Fields) (r : Pool) → r ∈ rs → under tgt r ≡ true → live_fields r ≡ f → any (λ (s : Pool). under tgt s && same_fields (live_fields s) f) rs ≡ true
  is_live f r m u e =
      any_in (λ (s : Pool). under tgt s && same_fields (live_fields s) f) m
      (both (under tgt r) (same_fields (live_fields r) f) u (ap (λ (g : Fields). same_fields g f) e ∙ fields_refl f))

  module _ (fs : List Fields) where
    -- the records of a lot that is listed whole, from one that is taken
    whole_out : whole_lots tgt fs rs ≡ true → (r s : Pool) → r ∈ rs → s ∈ rs → is_taken tgt fs r ≡ true → same_lot r s ≡ true → is_taken tgt fs s ≡ true
    whole_out w r s mr ms t e =
        implied (same_lot r s) (is_taken tgt fs s)
        (all_out (λ (x : Pool). not (same_lot r x) || is_taken tgt fs x) ms
        (implied (is_taken tgt fs r) (all (λ (x : Pool). not (same_lot r x) || is_taken tgt fs x) rs)
        (all_out (λ (y : Pool). not (is_taken tgt fs y) || all (λ (x : Pool). not (same_lot y x) || is_taken tgt fs x) rs) mr w) t)) e

    whole_in : ((r s : Pool) → r ∈ rs → s ∈ rs → is_taken tgt fs r ≡ true → same_lot r s ≡ true → is_taken tgt fs s ≡ true) → whole_lots tgt fs rs ≡ true
    whole_in k =
        all_in (λ (y : Pool). not (is_taken tgt fs y) || all (λ (x : Pool). not (same_lot y x) || is_taken tgt fs x) rs) rs
        (λ r mr. implies (is_taken tgt fs r) (all (λ (x : Pool). not (same_lot r x) || is_taken tgt fs x) rs)
        (λ t. all_in (λ (x : Pool). not (same_lot r x) || is_taken tgt fs x) rs (λ s ms. implies (same_lot r s) (is_taken tgt fs s) (k r s mr ms t))))

    taken_of : (r : Pool) → under tgt r ≡ true → live_fields r ∈ fs → is_taken tgt fs r ≡ true
    taken_of r u m = both (under tgt r) (has_fields (live_fields r) fs) u (has_in m)

    taken_under : (r : Pool) → is_taken tgt fs r ≡ true → under tgt r ≡ true
    taken_under r t = and_left (under tgt r) (has_fields (live_fields r) fs) t

    taken_fields : (r : Pool) → is_taken tgt fs r ≡ true → live_fields r ∈ fs
    taken_fields r t = has_out (live_fields r) fs (and_right (under tgt r) (has_fields (live_fields r) fs) t)

    abbrev lots_fields : List Fields
    lots_fields = fields_of_live (keep (is_listed_in fs) (live_lots target_pools))

    touched : (l : LiveLot) → l ∈ live_lots target_pools → (r : Pool) → r ∈ live_pools l → live_fields r ∈ fs → l ∈ keep (is_listed_in fs) (live_lots target_pools)
    touched l ml r mr mf = keep_member (is_listed_in fs) ml (any_in (λ (g : Fields). has_fields g fs) (Memᴰ.map live_fields mr) (has_in mf))

    exact_live : exact_lots tgt fs rs ≡ exact_by_record tgt fs rs
    exact_live = alike (exact_lots tgt fs rs) (exact_by_record tgt fs rs) there back
      where
        there : exact_lots tgt fs rs ≡ true → exact_by_record tgt fs rs ≡ true
        there e =
            let e₁ = and_right (distinct fs) (all (λ (f : Fields). has_fields f lots_fields) fs && all (λ (g : Fields). has_fields g fs) lots_fields) e in
            let fore = and_left (all (λ (f : Fields). has_fields f lots_fields) fs) (all (λ (g : Fields). has_fields g fs) lots_fields) e₁ in
            let aft = and_right (all (λ (f : Fields). has_fields f lots_fields) fs) (all (λ (g : Fields). has_fields g fs) lots_fields) e₁ in
            both (all_live tgt fs rs) (distinct fs && whole_lots tgt fs rs)
            (all_in (λ (f : Fields). any (λ (r : Pool). under tgt r && same_fields (live_fields r) f) rs) fs
            (λ f m.
            let (l, ml, (r, mr, er)) = fields_out (keep (is_listed_in fs) (live_lots target_pools)) f (has_out f lots_fields (all_out (λ (f : Fields). has_fields f lots_fields) m fore)) in
            let (a, b) = keep_in (under tgt) rs (live_in target_pools l (keep_in (is_listed_in fs) (live_lots target_pools) ml).0 r mr) in
            is_live f r a b er))
            (both (distinct fs) (whole_lots tgt fs rs) (and_left (distinct fs) _ e)
            (whole_in
            (λ r s mr ms t same.
            let u = taken_under r t in
            let v = under_lot r s u same in
            let (l, ml, rl) = in_live target_pools r (in_target r mr u) in
            let sl = lot_all l ml r s rl (in_target s ms v) same in
            taken_of s v (has_out (live_fields s) fs (all_out (λ (g : Fields). has_fields g fs) (fields_in (keep (is_listed_in fs) (live_lots target_pools)) l s (touched l ml r rl (taken_fields r t)) sl) aft)))))

        back : exact_by_record tgt fs rs ≡ true → exact_lots tgt fs rs ≡ true
        back e =
            let li = and_left (all_live tgt fs rs) (distinct fs && whole_lots tgt fs rs) e in
            let e₁ = and_right (all_live tgt fs rs) (distinct fs && whole_lots tgt fs rs) e in
            let w = and_right (distinct fs) (whole_lots tgt fs rs) e₁ in
            both (distinct fs) (all (λ (f : Fields). has_fields f lots_fields) fs && all (λ (g : Fields). has_fields g fs) lots_fields) (and_left (distinct fs) (whole_lots tgt fs rs) e₁)
            (both (all (λ (f : Fields). has_fields f lots_fields) fs) (all (λ (g : Fields). has_fields g fs) lots_fields)
            (all_in (λ (f : Fields). has_fields f lots_fields) fs
            (λ f m.
            let (r, mr, u, er) = live_record fs li f m in
            let (l, ml, rl) = in_live target_pools r (in_target r mr u) in
            has_in (Memᴰ.cast (sym er) (fields_in (keep (is_listed_in fs) (live_lots target_pools)) l r (touched l ml r rl (Memᴰ.cast er m)) rl))))
            (all_in (λ (g : Fields). has_fields g fs) lots_fields
            (λ g m.
            let (l, ml, (s, sl, es)) = fields_out (keep (is_listed_in fs) (live_lots target_pools)) g m in
            let (mk, li') = keep_in (is_listed_in fs) (live_lots target_pools) ml in
            let (f, mf, ef) = any_out (λ (g : Fields). has_fields g fs) (live_lot_fields l) li' in
            let (r, rl, er) = Memᴰ.of_map live_fields (live_pools l) mf in
            let (a, u) = keep_in (under tgt) rs (live_in target_pools l mk r rl) in
            let (b, v) = keep_in (under tgt) rs (live_in target_pools l mk s sl) in
            let same = lot_trans r l.first s (lot_sym l.first r (live_lot target_pools l mk r rl)) (live_lot target_pools l mk s sl) in
            let t = whole_out w r s a b (taken_of r u (Memᴰ.cast er (has_out f fs ef))) same in
            has_in (Memᴰ.cast (sym es) (taken_fields s t)))))

  -- ---- a 6 lot
  module _ (l : Lot) (li : all_live tgt (lot_fields l) rs ≡ true) (di : distinct (lot_fields l) ≡ true) where
    abbrev fs : List Fields
    fs = lot_fields l

    abbrev q : Pool → Bool
    q = is_taken tgt fs

    abbrev fit : Pool → Bool
    fit r = eqb r.ordinal (first_ordinal (keep q rs)) && (eqb r.kind (kind_number (lot_kind l)) && eqb r.millions (lot_millions l))

    first_of : (xs : List Pool) (x : Pool) → x ∈ xs → (y : Pool) × (y ∈ xs) × (first_ordinal xs ≡ y.ordinal)
    first_of [] x m = absurd (Memᴰ.not-nil m)
    first_of (y ∷ ys) x m = (y, Memᴰ.head refl, refl)

    one_live : one_lot tgt rs l ≡ one_by_record tgt rs l
    one_live = alike (one_lot tgt rs l) (one_by_record tgt rs l) there back
      where
        there : one_lot tgt rs l ≡ true → one_by_record tgt rs l ≡ true
        there e = go (any_out (is_lot l) (live_lots target_pools) e)
          where
            go : (k : LiveLot) × (k ∈ live_lots target_pools) × (is_lot l k ≡ true) → one_by_record tgt rs l ≡ true
            go (k, mk, ek) =
                both (whole_lots tgt fs rs) (all fit (keep q rs))
                (whole_in fs (λ r s mr ms t same.
                let v = under_lot r s (taken_under fs r t) same in
                taken_of fs s v (of_lot s (lot_all k mk r s (mine r mr t) (in_target s ms v) same))))
                (all_in fit (keep q rs) (λ r m.
                let (mr, t) = keep_in q rs m in
                let (y, my, ey) = first_of (keep q rs) r m in
                let (b, u) = keep_in q rs my in
                let near = live_lot target_pools k mk r (mine r mr t) in
                let far = live_lot target_pools k mk y (mine y b u) in
                let (kind, millions) = live_agree target_pools (order_chained target_pools (ordered_keep (under tgt) rs order)) k mk r (mine r mr t) in
                both (eqb r.ordinal (first_ordinal (keep q rs))) (eqb r.kind (kind_number (lot_kind l)) && eqb r.millions (lot_millions l))
                (eq-eqb r.ordinal (first_ordinal (keep q rs)) (sym (lot_parts k.first r near).1 ∙ (lot_parts k.first y far).1 ∙ sym ey))
                (both (eqb r.kind (kind_number (lot_kind l))) (eqb r.millions (lot_millions l))
                (eq-eqb r.kind (kind_number (lot_kind l)) (sym kind ∙ eqb-true k.first.kind (kind_number (lot_kind l)) (and_left (eqb k.first.kind (kind_number (lot_kind l))) (eqb k.first.millions (lot_millions l)) numbers)))
                (eq-eqb r.millions (lot_millions l) (sym millions ∙ eqb-true k.first.millions (lot_millions l) (and_right (eqb k.first.kind (kind_number (lot_kind l))) (eqb k.first.millions (lot_millions l)) numbers))))))
              where
                numbers : (eqb k.first.kind (kind_number (lot_kind l)) && eqb k.first.millions (lot_millions l)) ≡ true
                numbers = and_right (each_once fs (live_lot_fields k)) (eqb k.first.kind (kind_number (lot_kind l)) && eqb k.first.millions (lot_millions l)) ek

                sides : (all (λ (f : Fields). has_fields f (live_lot_fields k)) fs && all (λ (g : Fields). has_fields g fs) (live_lot_fields k)) ≡ true
                sides =
                    and_right (distinct fs) (all (λ (f : Fields). has_fields f (live_lot_fields k)) fs && all (λ (g : Fields). has_fields g fs) (live_lot_fields k))
                    (and_left (each_once fs (live_lot_fields k)) (eqb k.first.kind (kind_number (lot_kind l)) && eqb k.first.millions (lot_millions l)) ek)

                of_lot : (s : Pool) → s ∈ live_pools k → live_fields s ∈ fs
                of_lot s m =
                    has_out (live_fields s) fs
                    (all_out (λ (g : Fields). has_fields g fs) (Memᴰ.map live_fields m) (and_right (all (λ (f : Fields). has_fields f (live_lot_fields k)) fs) (all (λ (g : Fields). has_fields g fs) (live_lot_fields k)) sides))

                -- a record that the 6 lot takes is of the live lot
                mine : (r : Pool) → r ∈ rs → q r ≡ true → r ∈ live_pools k
                mine r mr t =
                    let m = has_out (live_fields r) (live_lot_fields k)
                    (all_out (λ (f : Fields). has_fields f (live_lot_fields k)) (taken_fields fs r t) (and_left (all (λ (f : Fields). has_fields f (live_lot_fields k)) fs) (all (λ (g : Fields). has_fields g fs) (live_lot_fields k)) sides)) in
                    let (p, mp, ep) = Memᴰ.of_map live_fields (live_pools k) m in
                    let (a, u) = keep_in (under tgt) rs (live_in target_pools k mk p mp) in
                    let same : r ≡ p = once_same rs (sym (once_apart rs) ∙ once) r p mr a (under_one tgt r p (taken_under fs r t) u) (sym ep) in
                    rw same mp

        back : one_by_record tgt rs l ≡ true → one_lot tgt rs l ≡ true
        back e =
            let w = and_left (whole_lots tgt fs rs) (all fit (keep q rs)) e in
            let (r, mr, u, er) = live_record fs li (fields_of l.last) (last_fields l) in
            let t = taken_of fs r u (Memᴰ.cast er (last_fields l)) in
            let (k, mk, rk) = in_live target_pools r (in_target r mr u) in
            any_in (is_lot l) mk
            (both (each_once fs (live_lot_fields k)) (eqb k.first.kind (kind_number (lot_kind l)) && eqb k.first.millions (lot_millions l))
            (both (distinct fs) (all (λ (f : Fields). has_fields f (live_lot_fields k)) fs && all (λ (g : Fields). has_fields g fs) (live_lot_fields k)) di
            (both (all (λ (f : Fields). has_fields f (live_lot_fields k)) fs) (all (λ (g : Fields). has_fields g fs) (live_lot_fields k))
            (all_in (λ (f : Fields). has_fields f (live_lot_fields k)) fs
            (λ f m.
            let (s, ms, v, es) = live_record fs li f m in
            let ts = taken_of fs s v (Memᴰ.cast es m) in
            let same = is_lot_law r s (under_one tgt r s u v) ((fits e r mr t).0 ∙ sym (fits e s ms ts).0) in
            has_in (Memᴰ.cast (sym es) (Memᴰ.map live_fields (lot_all k mk r s rk (in_target s ms v) same)))))
            (all_in (λ (g : Fields). has_fields g fs) (live_lot_fields k)
            (λ g m.
            let (p, mp, ep) = Memᴰ.of_map live_fields (live_pools k) m in
            has_in (Memᴰ.cast (sym ep) (taken_fields fs p (whole w r mr t k mk rk p mp)))))))
            (let b = (keep_in (under tgt) rs (live_in target_pools k mk k.first (Memᴰ.head refl))).0 in
            let z = fits e k.first b (whole w r mr t k mk rk k.first (Memᴰ.head refl)) in
            both (eqb k.first.kind (kind_number (lot_kind l))) (eqb k.first.millions (lot_millions l))
            (eq-eqb k.first.kind (kind_number (lot_kind l)) z.1) (eq-eqb k.first.millions (lot_millions l) z.2)))
          where
            fits : one_by_record tgt rs l ≡ true → (s : Pool) → s ∈ rs → q s ≡ true → (s.ordinal ≡ first_ordinal (keep q rs)) × (s.kind ≡ kind_number (lot_kind l)) × (s.millions ≡ lot_millions l)
            fits e s m t =
                let a = all_out fit (keep_member q m t) (and_right (whole_lots tgt fs rs) (all fit (keep q rs)) e) in
                let b = and_right (eqb s.ordinal (first_ordinal (keep q rs))) (eqb s.kind (kind_number (lot_kind l)) && eqb s.millions (lot_millions l)) a in (
                  eqb-true s.ordinal (first_ordinal (keep q rs)) (and_left (eqb s.ordinal (first_ordinal (keep q rs))) (eqb s.kind (kind_number (lot_kind l)) && eqb s.millions (lot_millions l)) a),
                  eqb-true s.kind (kind_number (lot_kind l)) (and_left (eqb s.kind (kind_number (lot_kind l))) (eqb s.millions (lot_millions l)) b),
                  eqb-true s.millions (lot_millions l) (and_right (eqb s.kind (kind_number (lot_kind l))) (eqb s.millions (lot_millions l)) b),
                )

            -- a lot of which a record is taken is taken whole
            whole : whole_lots tgt fs rs ≡ true → (r : Pool) → r ∈ rs → q r ≡ true → (k : LiveLot) → k ∈ live_lots target_pools → r ∈ live_pools k → (p : Pool) → p ∈ live_pools k → q p ≡ true
            whole w r mr t k mk rk p mp =
                whole_out fs w r p mr (keep_in (under tgt) rs (live_in target_pools k mk p mp)).0 t
                (lot_trans r k.first p (lot_sym k.first r (live_lot target_pools k mk r rk)) (live_lot target_pools k mk p mp))

-- 37 over live lots is 37 record by record, in a table that is in order with matched fields once, for a CC whose lots are formed
pub listed_by_record_law : (body : List ℕ) (rs : List Pool) → in_order rs ≡ true → fields_once rs ≡ true → (is_cc (type_of body) ≡ true → formed_for true (details body) ≡ true)
    → listed_fine body rs ≡ listed_by_record body rs
listed_by_record_law body rs order once formed = rw (exact_live (target_of body) rs order once (listed body)) (go (exact_by_record (target_of body) (listed body) rs) refl (type_of body) refl)
  where
    lots : type_of body ≡ Cc → exact_by_record (target_of body) (listed body) rs ≡ true
        → all (one_lot (target_of body) rs) (canceled_lots (details body)) ≡ all (one_by_record (target_of body) rs) (canceled_lots (details body))
    lots t e = all_same (one_lot (target_of body) rs) (one_by_record (target_of body) rs) (canceled_lots (details body)) (λ l m. one_live (target_of body) rs order once l (live l m) (distinct_lot m apart_fields))
      where
        are : listed body ≡ fields_of_lots (canceled_lots (details body))
        are = listed_as body Cc t ∙ sym (canceled_fields true (details body) (formed (ap is_cc t)))

        apart_fields : distinct (fields_of_lots (canceled_lots (details body))) ≡ true
        apart_fields =
            sym (ap distinct are)
            ∙ and_left (distinct (listed body)) (whole_lots (target_of body) (listed body) rs) (and_right (all_live (target_of body) (listed body) rs) (distinct (listed body) && whole_lots (target_of body) (listed body) rs) e)

        live : (l : Lot) → l ∈ canceled_lots (details body) → all_live (target_of body) (lot_fields l) rs ≡ true
        live l m =
            all_in (λ (f : Fields). any (λ (r : Pool). under (target_of body) r && same_fields (live_fields r) f) rs) (lot_fields l)
            (λ f n.
            let o : f ∈ listed body = rw are (in_fields_of_lots m n) in
            all_out (λ (f : Fields). any (λ (r : Pool). under (target_of body) r && same_fields (live_fields r) f) rs) o
            (and_left (all_live (target_of body) (listed body) rs) (distinct (listed body) && whole_lots (target_of body) (listed body) rs) e))

    go : (b : Bool) → exact_by_record (target_of body) (listed body) rs ≡ b → (t : MessageType) → type_of body ≡ t
        → (b && (not (is_cc t) || all (one_lot (target_of body) rs) (canceled_lots (details body)))) ≡ (b && (not (is_cc t) || all (one_by_record (target_of body) rs) (canceled_lots (details body))))
    go true e On k = refl
    go true e Cc k = lots k e
    go true e Dk k = refl
    go true e Cx k = refl
    go true e Other k = refl
    go false e t k = refl
