-- Taking lots off: the table's filter and the history's counters agree, because a standing lot is listed whole or not at all (37);
-- and no lot is taken off twice, because a listed pool is live and a live pool is of one standing lot.
use Rattle.std.specs.Prelude.{Option}
use mathlib.Core.Path.{◌≡◌, refl, sym, ap, ◌∙◌}
use mathlib.Core.Bool.{Bool, true, false, not, cond, ◌&&◌, ◌||◌, and-true, and-false}
use mathlib.Core.List.Memᴰ
use mathlib.Core.List.{List, [], ◌∷◌, map}
use Prim.Native.Nat.{ℕ, ◌+◌, ◌≤◌, ◌<◌}
use native.Mathlib.Omega.{arith}
use native.Mathlib.Numerals.{add-one}
use native.Mathlib.Nat.{add-zero}
use lib.Dec.{eqb, eqb-suc-zero}
use borrow.Author.Tests.{eq-eqb, eqb-true, ne_eqb}
use Rattle.lists.specs.Lists.{keep, any, all, sum_of}
use Rattle.lists.proofs.Tests.{◌∈◌, and_left, and_right, both, clash, un_true, implied, cond_zero, all_out, any_in, any_out, keep_const, keep_first, sum_same, sum_add, sum_map, sum_zero}
use Rattle.layout.specs.declared.Detail.{Detail}
use Rattle.terminator.specs.Lots.{Lot, pools_of, lot_weight}
use Rattle.book.specs.declared.Pool.{Pool}
use Rattle.book.specs.Records.{Fields, fields_of, live_fields, same_fields, has_fields, distinct, same_lot, live_weight, trade_weight}
use Rattle.book.specs.Messages.{under}
use Rattle.book.specs.Checks.{is_taken, first_under, lot_fields}
use Rattle.book.specs.History.{Brought, is_target, touches, once, take_off, stands, trade_share}
use Rattle.book.proofs.ByRecord.{all_live, whole_lots, exact_by_record}
use Rattle.book.proofs.Matched.{fields_equal}
use Rattle.book.proofs.Targets.{target_one}
use Rattle.book.proofs.Laid.{record_of, laid, flat, flat_same, flat_take_off, flat_keep, in_flat, flat_in, Apart, trade_flat, cond_swap, laid_weight}

-- ---- what holds of the history's lots: each by itself, and any two under one ID

-- an ID already given, a trade that is opened, taken off once at most
pub record Fine (last n : ℕ) (g : Brought) : Type 0 where
  pub id : g.id ≤ last
  pub trade : g.trade < n
  pub once : g.offs ≤ 1

-- one trade, and no matched fields in common unless they are one lot
pub record Pair (g h : Brought) : Type 0 where
  pub trade : g.trade ≡ h.trade
  pub one : (f : Fields) → f ∈ lot_fields g.lot → f ∈ lot_fields h.lot → g ≡ h

pub record Lots (n last : ℕ) (hs : List Brought) : Type 0 where
  pub fine : (g : Brought) → g ∈ hs → Fine last n g
  pub apart : Apart hs
  pub pair : (g h : Brought) → g ∈ hs → h ∈ hs → g.id ≡ h.id → Pair g h

-- what 37 gives
pub record Exact (tgt : Option ℕ) (fs : List Fields) (rs : List Pool) : Type 0 where
  pub live : all_live tgt fs rs ≡ true
  pub distinct : distinct fs ≡ true
  pub whole : whole_lots tgt fs rs ≡ true

pub exact : (tgt : Option ℕ) (fs : List Fields) (rs : List Pool) → exact_by_record tgt fs rs ≡ true → Exact tgt fs rs
exact tgt fs rs e =
    let f = and_right (all_live tgt fs rs) (distinct fs && whole_lots tgt fs rs) e in
    record {
      live = and_left (all_live tgt fs rs) (distinct fs && whole_lots tgt fs rs) e;
      distinct = and_left (distinct fs) (whole_lots tgt fs rs) f;
      whole = and_right (distinct fs) (whole_lots tgt fs rs) f;
    }

-- a pool of a lot whose fields are listed
abbrev pub is_listed : List Fields → Detail → Bool
is_listed fs d = has_fields (fields_of d) fs

-- what a lot counts for among those that stand
abbrev pub standing : (Lot → ℕ) → Brought → ℕ
standing v h = cond (stands h) (v h.lot) 0

-- a live record leads back to its standing lot and to the pool there
pub from_live : (hs : List Brought) (r : Pool) → r ∈ flat stands hs
    → (h : Brought) × (h ∈ hs) × (stands h ≡ true) × ((d : Detail) × (d ∈ pools_of h.lot) × (record_of h d ≡ r))
from_live hs r m =
    let (h, mh, sh, rh) = flat_in stands hs m in
    (h, mh, sh, Memᴰ.of_map (record_of h) (pools_of h.lot) rh)

module _ (tgt : Option ℕ) (fs : List Fields) where
  pub touches_target : (h : Brought) → touches tgt fs h ≡ true → is_target tgt h.id ≡ true
  touches_target h e = and_left (is_target tgt h.id) (any (is_listed fs) (pools_of h.lot)) e

  pub touches_pool : (h : Brought) → touches tgt fs h ≡ true → (d : Detail) × (d ∈ pools_of h.lot) × (is_listed fs d ≡ true)
  touches_pool h e = any_out (is_listed fs) (pools_of h.lot) (and_right (is_target tgt h.id) (any (is_listed fs) (pools_of h.lot)) e)

  -- a record that is taken is of a lot that is touched
  taken_touches : (h : Brought) (d : Detail) → d ∈ pools_of h.lot → is_taken tgt fs (record_of h d) ≡ true → touches tgt fs h ≡ true
  taken_touches h d m t =
      both (is_target tgt h.id) (any (is_listed fs) (pools_of h.lot))
      (and_left (under tgt (record_of h d)) (is_listed fs d) t)
      (any_in (is_listed fs) m (and_right (under tgt (record_of h d)) (is_listed fs d) t))

  -- what a lot counts for among those that go
  abbrev pub gone : (Lot → ℕ) → Brought → ℕ
  gone v h = cond (stands h && touches tgt fs h) (v h.lot) 0

module _ (tgt : Option ℕ) (fs : List Fields) (hs : List Brought) where
  -- a standing lot is listed whole or not at all
  pub whole_or_none : whole_lots tgt fs (flat stands hs) ≡ true → (h : Brought) → h ∈ hs → stands h ≡ true
      → (b : Bool) → touches tgt fs h ≡ b → (r : Pool) → r ∈ laid h → is_taken tgt fs r ≡ b
  whole_or_none w h m s true e r n =
      let (d₀, m₀, e₀) = touches_pool tgt fs h e in
      let r₀ : Pool = record_of h d₀ in
      let in₀ = in_flat stands m s (Memᴰ.map (record_of h) m₀) in
      let t₀ = both (under tgt r₀) (is_listed fs d₀) (touches_target tgt fs h e) e₀ in
      let a₀ = implied (is_taken tgt fs r₀) (all (λ (s : Pool). not (same_lot r₀ s) || is_taken tgt fs s) (flat stands hs))
      (all_out (λ (r : Pool). not (is_taken tgt fs r) || all (λ (s : Pool). not (same_lot r s) || is_taken tgt fs s) (flat stands hs)) in₀ w) t₀ in
      let a₁ = all_out (λ (s : Pool). not (same_lot r₀ s) || is_taken tgt fs s) (in_flat stands m s n) a₀ in
      let (d₁, m₁, e₁) = Memᴰ.of_map (record_of h) (pools_of h.lot) n in
      implied (same_lot r₀ r) (is_taken tgt fs r) a₁
      (rw (← e₁) (both (eqb h.id h.id) (eqb h.ordinal h.ordinal) (eq-eqb h.id h.id refl) (eq-eqb h.ordinal h.ordinal refl)))
  whole_or_none w h m s false e r n =
      let (d, md, ed) = Memᴰ.of_map (record_of h) (pools_of h.lot) n in
      rw (← ed) (un_true (is_taken tgt fs (record_of h d)) (λ (t : is_taken tgt fs (record_of h d) ≡ true). clash (taken_touches tgt fs h d md t) e))

  -- the records that are taken are those of the standing lots that are touched
  pub taken_flat : whole_lots tgt fs (flat stands hs) ≡ true → keep (is_taken tgt fs) (flat stands hs) ≡ flat (λ h. stands h && touches tgt fs h) hs
  taken_flat w =
      flat_keep (is_taken tgt fs) stands (touches tgt fs) hs
      (λ h m s. keep_const (is_taken tgt fs) (touches tgt fs h) (laid h) (λ r n. whole_or_none w h m s (touches tgt fs h) refl r n))

  still : (h : Brought) → (stands h && not (touches tgt fs h)) ≡ eqb (h.offs + once (touches tgt fs h)) 0
  still h = go (touches tgt fs h)
    where
      go : (b : Bool) → (stands h && not b) ≡ eqb (h.offs + once b) 0
      go true = rw (and-false, add-one, eqb-suc-zero)
      go false = rw (and-true, add-zero)

  -- the records that are left are those of the lots that still stand
  pub left_flat : whole_lots tgt fs (flat stands hs) ≡ true → (by_dk : Bool)
      → keep (λ (r : Pool). not (is_taken tgt fs r)) (flat stands hs) ≡ flat stands (map (take_off by_dk tgt fs) hs)
  left_flat w by_dk =
      flat_keep (λ (r : Pool). not (is_taken tgt fs r)) stands (λ h. not (touches tgt fs h)) hs
      (λ h m s. keep_const (λ (r : Pool). not (is_taken tgt fs r)) (not (touches tgt fs h)) (laid h) (λ r n. ap not (whole_or_none w h m s (touches tgt fs h) refl r n)))
      ∙ flat_same (λ h. stands h && not (touches tgt fs h)) (λ h. stands (take_off by_dk tgt fs h)) hs (λ h m. still h)
      ∙ sym (flat_take_off stands by_dk tgt fs hs)

  -- listed fields lead to a standing lot under the target that has them
  pub listed_lot : all_live tgt fs (flat stands hs) ≡ true → (f : Fields) → f ∈ fs
      → (h : Brought) × (h ∈ hs) × (stands h ≡ true) × (is_target tgt h.id ≡ true) × ((d : Detail) × (d ∈ pools_of h.lot) × (fields_of d ≡ f))
  listed_lot li f m =
      let (r, mr, er) = any_out (λ (r : Pool). under tgt r && same_fields (live_fields r) f) (flat stands hs)
      (all_out (λ (f : Fields). any (λ (r : Pool). under tgt r && same_fields (live_fields r) f) (flat stands hs)) m li) in
      let (h, mh, sh, (d, md, ed)) = from_live hs r mr in (
        h,
        mh,
        sh,
        ap (is_target tgt) (ap (λ (x : Pool). x.message) ed) ∙ and_left (under tgt r) (same_fields (live_fields r) f) er,
        (d, md, ap live_fields ed ∙ fields_equal (live_fields r) f (and_right (under tgt r) (same_fields (live_fields r) f) er)),
      )

  -- no lot is taken off twice
  pub first_time : (n last : ℕ) → Lots n last hs → all_live tgt fs (flat stands hs) ≡ true → (g : Brought) → g ∈ hs → touches tgt fs g ≡ true → stands g ≡ true
  first_time n last lots li g m e =
      let (d, md, ed) = touches_pool tgt fs g e in
      let (f, mf, ef) = any_out (same_fields (fields_of d)) fs ed in
      let (h, mh, sh, th, (c, mc, ec)) = listed_lot li f mf in
      let same : g ≡ h = (lots.pair g h m mh (target_one tgt g.id h.id (touches_target tgt fs g e) th)).one (fields_of d) (Memᴰ.map fields_of md)
      (Memᴰ.cast (fields_equal (fields_of d) f ef ∙ sym ec) (Memᴰ.map fields_of mc)) in
      rw same sh

  -- ---- the history's lots stay as they should be
  pub lots_take : (n last : ℕ) → Lots n last hs → all_live tgt fs (flat stands hs) ≡ true → (by_dk : Bool) → Lots n last (map (take_off by_dk tgt fs) hs)
  lots_take n last lots li by_dk = record { fine = fine; apart = far hs lots.apart; pair = pair }
    where
      once_more : (g : Brought) → g ∈ hs → (b : Bool) → touches tgt fs g ≡ b → g.offs + once b ≤ 1
      once_more g m true e = let z : g.offs ≡ 0 = eqb-true g.offs 0 (first_time n last lots li g m e) in omega arith
      once_more g m false e = omega (arith, (lots.fine g m).once)

      fine : (g : Brought) → g ∈ map (take_off by_dk tgt fs) hs → Fine last n g
      fine g m =
          let (a, ma, ea) = Memᴰ.of_map (take_off by_dk tgt fs) hs m in
          let w = lots.fine a ma in
          rw (← ea) (record { id = w.id; trade = w.trade; once = once_more a ma (touches tgt fs a) refl })

      far : (gs : List Brought) → Apart gs → Apart (map (take_off by_dk tgt fs) gs)
      far [] a = tt
      far (g ∷ gs) a = (λ h m. let (b, mb, eb) = Memᴰ.of_map (take_off by_dk tgt fs) gs m in rw (← eb) (a.0 b mb), far gs a.1)

      pair : (g h : Brought) → g ∈ map (take_off by_dk tgt fs) hs → h ∈ map (take_off by_dk tgt fs) hs → g.id ≡ h.id → Pair g h
      pair g h mg mh =
          let (a, ma, ea) = Memᴰ.of_map (take_off by_dk tgt fs) hs mg in
          let (b, mb, eb) = Memᴰ.of_map (take_off by_dk tgt fs) hs mh in
          rw (← ea, ← eb) (λ e. let p = lots.pair a b ma mb e in record { trade = p.trade; one = λ f x y. ap (take_off by_dk tgt fs) (p.one f x y) })

  -- ---- sums: what is taken off
  -- what stood is what still stands and what is gone
  pub standing_take : (v : Lot → ℕ) (by_dk : Bool) (t : ℕ)
      → sum_of (trade_share t (standing v)) hs ≡ sum_of (trade_share t (standing v)) (map (take_off by_dk tgt fs) hs) + sum_of (trade_share t (gone tgt fs v)) hs
  standing_take v by_dk t =
      sum_same (trade_share t (standing v)) (λ h. trade_share t (standing v) (take_off by_dk tgt fs h) + trade_share t (gone tgt fs v) h) hs
      (λ h m. rw (← still h) (go (eqb h.trade t) (stands h) (touches tgt fs h) (v h.lot)))
      ∙ sum_add (λ h. trade_share t (standing v) (take_off by_dk tgt fs h)) (trade_share t (gone tgt fs v)) hs
      ∙ ap (λ (x : ℕ). x + sum_of (trade_share t (gone tgt fs v)) hs) (sym (sum_map (trade_share t (standing v)) (take_off by_dk tgt fs) hs))
    where
      go : (b s u : Bool) (w : ℕ) → cond b (cond s w 0) 0 ≡ cond b (cond (s && not u) w 0) 0 + cond b (cond (s && u) w 0) 0
      go true true true w = omega arith
      go true true false w = omega arith
      go true false u w = refl
      go false s u w = refl

  -- a trade's sum over what the table loses is the history's over what is gone
  pub gone_weight : (n last : ℕ) → Lots n last hs → whole_lots tgt fs (flat stands hs) ≡ true
      → (t : ℕ) → trade_weight t (keep (is_taken tgt fs) (flat stands hs)) ≡ sum_of (trade_share t (gone tgt fs lot_weight)) hs
  unfolding trade_weight
  gone_weight n last lots w t =
      rw (taken_flat w)
      (trade_flat live_weight (λ h. lot_weight h.lot) laid_weight t (λ h. stands h && touches tgt fs h) hs lots.apart
      ∙ sum_same (λ h. cond (stands h && touches tgt fs h) (cond (eqb h.trade t) (lot_weight h.lot) 0) 0) (trade_share t (gone tgt fs lot_weight)) hs
      (λ h m. cond_swap (stands h && touches tgt fs h) (eqb h.trade t) (lot_weight h.lot)))

  -- all of it is of one trade
  pub gone_there : (v : Lot → ℕ) (t : ℕ) → ((g : Brought) → g ∈ hs → touches tgt fs g ≡ true → g.trade ≡ t)
      → sum_of (trade_share t (gone tgt fs v)) hs ≡ sum_of (gone tgt fs v) hs
  gone_there v t k = sum_same (trade_share t (gone tgt fs v)) (gone tgt fs v) hs (λ h m. go h m (touches tgt fs h) refl)
    where
      go : (h : Brought) → h ∈ hs → (b : Bool) → touches tgt fs h ≡ b → cond (eqb h.trade t) (cond (stands h && b) (v h.lot) 0) 0 ≡ cond (stands h && b) (v h.lot) 0
      go h m true e = rw (eq-eqb h.trade t (k h m e))
      go h m false e = rw and-false (cond_zero (eqb h.trade t))

  pub gone_elsewhere : (v : Lot → ℕ) (t u : ℕ) → ((g : Brought) → g ∈ hs → touches tgt fs g ≡ true → g.trade ≡ t) → (u ≡ t → ⊥)
      → sum_of (trade_share u (gone tgt fs v)) hs ≡ 0
  gone_elsewhere v t u k ne = sum_same (trade_share u (gone tgt fs v)) (λ h. 0) hs (λ h m. go h m (touches tgt fs h) refl) ∙ sum_zero hs
    where
      go : (h : Brought) → h ∈ hs → (b : Bool) → touches tgt fs h ≡ b → cond (eqb h.trade u) (cond (stands h && b) (v h.lot) 0) 0 ≡ 0
      go h m true e = rw (ne_eqb h.trade u (λ p. ne (sym p ∙ k h m e)))
      go h m false e = rw and-false (cond_zero (eqb h.trade u))

-- ---- the target's trade: every lot under the target has it
module _ (n last : ℕ) (tgt : Option ℕ) (hs : List Brought) (lots : Lots n last hs) (some : any (under tgt) (flat stands hs) ≡ true) where
  under_lot : (g : Brought) × (g ∈ hs) × (is_target tgt g.id ≡ true) × (first_under (keep (under tgt) (flat stands hs)) ≡ g.trade)
  under_lot =
      let (r, mr, er, (rs, k)) = keep_first (under tgt) (flat stands hs) some in
      let (h, mh, sh, (d, md, ed)) = from_live hs r mr in
      (h, mh, ap (is_target tgt) (ap (λ (x : Pool). x.message) ed) ∙ er, ap first_under k ∙ sym (ap (λ (x : Pool). x.trade) ed))

  pub target_trade_law : (g : Brought) → g ∈ hs → is_target tgt g.id ≡ true → g.trade ≡ first_under (keep (under tgt) (flat stands hs))
  target_trade_law g m e =
      let (h, mh, eh, th) = under_lot in
      (lots.pair g h m mh (target_one tgt g.id h.id e eh)).trade ∙ sym th
