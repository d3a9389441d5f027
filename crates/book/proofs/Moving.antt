-- Book and history side by side: the facts that hold between them, and that an accepted message keeps them. Every accepted message is one move: it takes
-- the listed lots off (none for an ON), then brings its new ones (none for a DK).
use Rattle.std.specs.Prelude.{Option}
use mathlib.Core.Path.{◌≡◌, refl, sym, ap, ◌∙◌}
use mathlib.Core.Bool.{Bool, true, false, not, cond, ◌&&◌}
use mathlib.Core.List.{List, [], ◌∷◌, ◌++◌, map}
use Prim.Native.Nat.{ℕ, zero, suc, ◌+◌, ◌-◌, ◌*◌, ◌≤◌, ◌<◌}
use native.Mathlib.Omega.{arith}
use native.Mathlib.Nat.{add-zero, zero-add}
use lib.Dec.{eqb}
use lib.ListN.{length, get_or, length-map, get_or-map}
use lib.Seq.{ext_get_or}
use Rattle.lists.specs.Lists.{keep, sum_of}
use Rattle.lists.proofs.Tests.{◌∈◌, clash, sum_append, sum_same, sum_add, sum_map}
use Rattle.terminator.specs.Lots.{lot_weight, lot_millions}
use Rattle.book.specs.declared.Trade.{Trade}
use Rattle.book.specs.declared.Values.{Values}
use Rattle.book.specs.declared.Pool.{Pool}
use Rattle.book.specs.Dues.{Due, due_share, due_weight}
use Rattle.book.specs.Records.{Fields, distinct, records_of, trade_weight}
use Rattle.book.specs.Trades.{trades_of, open_pars}
use Rattle.book.specs.Opening.{at_par}
use Rattle.book.specs.Checks.{is_taken, trade_at, no_trade}
use Rattle.book.specs.Step.{pars_moved}
use Rattle.book.specs.History.{Brought, History, touches, once, take_off, bring, stands, trade_share, standing_weight, millions_by_ons, millions_by_dks, history_sums, fields_of_lots}
use Rattle.book.proofs.Dues.{due_lots, AllTo}
use Rattle.book.proofs.Kept.{moved_blind}
use Rattle.book.proofs.Laid.{flat, flat_append, flat_bring}
use Rattle.book.proofs.Taking.{Lots, Exact, standing, gone, left_flat, first_time, lots_take, standing_take, gone_weight}
use Rattle.book.proofs.Bringing.{standing_bring, ons_bring, dks_bring, lots_bring}

-- the last ID, the trades and the live records of a book, beside the history of the same calls
pub record Beside (v : Values) (id : ℕ) (ts : List Trade) (rs : List Pool) (h : History) : Type 0 where
  pub last : id ≡ h.last_message_id
  pub table : rs ≡ flat stands h.lots
  -- the trades are opening's but for their open par
  pub terms : map at_par ts ≡ map at_par (trades_of v)
  pub pars : (t : ℕ) → t < length (trades_of v) → (trade_at ts t).open_par + standing_weight t h.lots ≡ (trade_at (trades_of v) t).par
  pub lots : Lots (length (trades_of v)) h.last_message_id h.lots
  pub millions : (t : ℕ) → sum_of (trade_share t (standing lot_millions)) h.lots + millions_by_dks t h.lots ≡ millions_by_ons t h.lots

pub same_count : (v : Values) (ts : List Trade) → map at_par ts ≡ map at_par (trades_of v) → length ts ≡ length (trades_of v)
same_count v ts e = sym (length-map ts at_par) ∙ ap length e ∙ length-map (trades_of v) at_par

-- ---- the open pars of the book are the history sums

sums_length : (i : ℕ) (ts : List Trade) (hs : List Brought) → length (history_sums i ts hs) ≡ length ts
sums_length i [] hs = refl
sums_length i (t ∷ ts) hs = ap suc (sums_length (i + 1) ts hs)

sums_at : (i : ℕ) (ts : List Trade) (hs : List Brought) (j : ℕ) → j < length ts → get_or (history_sums i ts hs) j 0 ≡ (trade_at ts j).par - standing_weight (i + j) hs
sums_at i [] hs j lt = absurd (omega arith)
sums_at i (t ∷ ts) hs zero lt = rw add-zero
sums_at i (t ∷ ts) hs (suc j) lt =
    let e : i + 1 + j ≡ i + suc j = omega arith in
    sums_at (i + 1) ts hs j (omega arith) ∙ ap (λ (k : ℕ). (trade_at ts j).par - standing_weight k hs) e

pub same_opens : (v : Values) (last : ℕ) (ts : List Trade) (rs : List Pool) (h : History) → Beside v last ts rs h → history_sums 0 (trades_of v) h.lots ≡ open_pars ts
same_opens v last ts rs h w =
    ext_get_or 0 (history_sums 0 (trades_of v) h.lots) (open_pars ts) (sums_length 0 (trades_of v) h.lots ∙ sym (same_count v ts w.terms) ∙ sym (length-map ts (λ (t : Trade). t.open_par)))
    (λ i lt.
    let l : i < length (trades_of v) = omega (arith, sums_length 0 (trades_of v) h.lots) in
    sums_at 0 (trades_of v) h.lots i l ∙ rw zero-add (omega (arith, w.pars i l)) ∙ sym (get_or-map (λ (t : Trade). t.open_par) ts i no_trade))

-- ---- millions when lots are taken off

module _ (tgt : Option ℕ) (fs : List Fields) (hs : List Brought) (t : ℕ) where
  ons_take : (by_dk : Bool) → millions_by_ons t (map (take_off by_dk tgt fs) hs) ≡ millions_by_ons t hs
  unfolding millions_by_ons
  ons_take by_dk = sum_map (trade_share t (λ (h : Brought). cond h.by_on (lot_millions h.lot) 0)) (take_off by_dk tgt fs) hs

  dks_take : (by_dk : Bool) → ((h : Brought) → h ∈ hs → touches tgt fs h ≡ true → stands h ≡ true)
      → millions_by_dks t (map (take_off by_dk tgt fs) hs) ≡ millions_by_dks t hs + cond by_dk (sum_of (trade_share t (gone tgt fs lot_millions)) hs) 0
  unfolding millions_by_dks
  dks_take true up =
      sum_map (trade_share t (λ (h : Brought). h.dks * lot_millions h.lot)) (take_off true tgt fs) hs
      ∙ sum_same (λ h. trade_share t (λ (g : Brought). g.dks * lot_millions g.lot) (take_off true tgt fs h))
      (λ h. trade_share t (λ (g : Brought). g.dks * lot_millions g.lot) h + trade_share t (gone tgt fs lot_millions) h) hs
      (λ h m. go h m (eqb h.trade t) (stands h) (touches tgt fs h) refl refl)
      ∙ sum_add (trade_share t (λ (h : Brought). h.dks * lot_millions h.lot)) (trade_share t (gone tgt fs lot_millions)) hs
    where
      go : (h : Brought) → h ∈ hs → (b s u : Bool) → stands h ≡ s → touches tgt fs h ≡ u
          → cond b ((h.dks + once u) * lot_millions h.lot) 0 ≡ cond b (h.dks * lot_millions h.lot) 0 + cond b (cond (s && u) (lot_millions h.lot) 0) 0
      go h m true true true es eu = omega arith
      go h m true false true es eu = clash (up h m eu) es
      go h m true true false es eu = omega arith
      go h m true false false es eu = omega arith
      go h m false s u es eu = refl
  dks_take false up =
      sum_map (trade_share t (λ (h : Brought). h.dks * lot_millions h.lot)) (take_off false tgt fs) hs
      ∙ sum_same (λ h. trade_share t (λ (g : Brought). g.dks * lot_millions g.lot) (take_off false tgt fs h)) (trade_share t (λ (h : Brought). h.dks * lot_millions h.lot)) hs
      (λ h m. go (eqb h.trade t) h)
      ∙ sym (add-zero (sum_of (trade_share t (λ (h : Brought). h.dks * lot_millions h.lot)) hs))
    where
      go : (b : Bool) (h : Brought) → cond b ((h.dks + 0) * lot_millions h.lot) 0 ≡ cond b (h.dks * lot_millions h.lot) 0
      go true h = omega arith
      go false h = refl

-- ---- the move

-- what a message must satisfy: which lots go (37), that the new ones come to one trade that is opened, that each trade has room for them (38), that none
-- repeats (36), and that for each trade the millions that go and come agree with what ONs bring and DKs take off (21)
pub record Move (ts : List Trade) (rs : List Pool) (hs : List Brought) (tgt : Option ℕ) (fs : List Fields) (ds : List Due) (by_on by_dk : Bool) : Type 0 where
  pub exact : Exact tgt fs rs
  pub range : (d : Due) → d ∈ ds → d.to < length ts
  pub one : (t : ℕ) × AllTo t ds
  pub room : (u : ℕ) → due_weight u ds ≤ (trade_at ts u).open_par + trade_weight u (keep (is_taken tgt fs) rs)
  pub apart : distinct (fields_of_lots (due_lots ds)) ≡ true
  pub even : (u : ℕ) → cond by_dk (sum_of (trade_share u (gone tgt fs lot_millions)) hs) 0 + sum_of (due_share u lot_millions) ds
      ≡ sum_of (trade_share u (gone tgt fs lot_millions)) hs + cond by_on (sum_of (due_share u lot_millions) ds) 0

-- the trades, the records and the lots that it leaves
abbrev pub moved_trades : List Trade → List Pool → Option ℕ → List Fields → List Due → List Trade
moved_trades ts rs tgt fs ds = pars_moved (keep (is_taken tgt fs) rs) ds 0 ts

abbrev pub moved_records : ℕ → List Pool → Option ℕ → List Fields → List Due → List Pool
moved_records last rs tgt fs ds = keep (λ (r : Pool). not (is_taken tgt fs r)) rs ++ records_of (last + 1) 1 ds

abbrev pub moved_lots : ℕ → List Brought → Option ℕ → List Fields → List Due → Bool → Bool → List Brought
moved_lots last hs tgt fs ds by_on by_dk = map (take_off by_dk tgt fs) hs ++ bring (last + 1) by_on 1 ds

-- a trade's open par after it
moved_at : (off : List Pool) (ds : List Due) (i : ℕ) (ts : List Trade) (j : ℕ) → j < length ts
    → (trade_at (pars_moved off ds i ts) j).open_par ≡ ((trade_at ts j).open_par + trade_weight (i + j) off) - due_weight (i + j) ds
moved_at off ds i [] j lt = absurd (omega arith)
moved_at off ds i (t ∷ ts) zero lt = rw add-zero
moved_at off ds i (t ∷ ts) (suc j) lt =
    let e : i + 1 + j ≡ i + suc j = omega arith in
    moved_at off ds (i + 1) ts j (omega arith) ∙ ap (λ (k : ℕ). ((trade_at ts j).open_par + trade_weight k off) - due_weight k ds) e

module _ (v : Values) (ts : List Trade) (h : History) (tgt : Option ℕ) (fs : List Fields) (ds : List Due) (by_on by_dk : Bool)
    (w : Beside v h.last_message_id ts (flat stands h.lots) h) (mv : Move ts (flat stands h.lots) h.lots tgt fs ds by_on by_dk) where
  abbrev next : List Brought
  next = moved_lots h.last_message_id h.lots tgt fs ds by_on by_dk

  -- a sum over the lots after it is that over the old ones and that over the new ones
  parted : (f : Brought → ℕ) → sum_of f next ≡ sum_of f (map (take_off by_dk tgt fs) h.lots) + sum_of f (bring (h.last_message_id + 1) by_on 1 ds)
  parted f = sum_append f (map (take_off by_dk tgt fs) h.lots) (bring (h.last_message_id + 1) by_on 1 ds)

  move_pars : (u : ℕ) → u < length (trades_of v) → (trade_at (moved_trades ts (flat stands h.lots) tgt fs ds) u).open_par + standing_weight u next ≡ (trade_at (trades_of v) u).par
  unfolding standing_weight due_weight
  move_pars u lu =
      rw (moved_at (keep (is_taken tgt fs) (flat stands h.lots)) ds 0 ts u (omega (arith, same_count v ts w.terms)), zero-add)
      (omega (
        arith,
        mv.room u,
        w.pars u lu,
        gone_weight tgt fs h.lots (length (trades_of v)) h.last_message_id w.lots mv.exact.whole u,
        standing_take tgt fs h.lots lot_weight by_dk u,
        parted (trade_share u (standing lot_weight)),
        standing_bring (h.last_message_id + 1) by_on lot_weight u 1 ds,
      ))

  move_millions : (u : ℕ) → sum_of (trade_share u (standing lot_millions)) next + millions_by_dks u next ≡ millions_by_ons u next
  unfolding millions_by_ons millions_by_dks
  move_millions u =
      omega (
        arith,
        w.millions u,
        mv.even u,
        standing_take tgt fs h.lots lot_millions by_dk u,
        dks_take tgt fs h.lots u by_dk (first_time tgt fs h.lots (length (trades_of v)) h.last_message_id w.lots mv.exact.live),
        ons_take tgt fs h.lots u by_dk,
        parted (trade_share u (standing lot_millions)),
        parted (trade_share u (λ (g : Brought). g.dks * lot_millions g.lot)),
        parted (trade_share u (λ (g : Brought). cond g.by_on (lot_millions g.lot) 0)),
        standing_bring (h.last_message_id + 1) by_on lot_millions u 1 ds,
        dks_bring (h.last_message_id + 1) by_on u 1 ds,
        ons_bring (h.last_message_id + 1) by_on u 1 ds,
      )

  move_flat : Beside v (h.last_message_id + 1) (moved_trades ts (flat stands h.lots) tgt fs ds) (moved_records h.last_message_id (flat stands h.lots) tgt fs ds)
      (record { last_message_id = h.last_message_id + 1; lots = next })
  move_flat =
      record {
        last = refl;
        table = rw (left_flat tgt fs h.lots mv.exact.whole by_dk, flat_append, flat_bring);
        terms = moved_blind at_par (λ t cents. refl) (keep (is_taken tgt fs) (flat stands h.lots)) ds 0 ts ∙ w.terms;
        pars = move_pars;
        lots =
            lots_bring (length (trades_of v)) h.last_message_id (map (take_off by_dk tgt fs) h.lots)
            (lots_take tgt fs h.lots (length (trades_of v)) h.last_message_id w.lots mv.exact.live by_dk) by_on ds mv.one.0
            (λ d m. omega (arith, mv.range d m, same_count v ts w.terms)) mv.one.1 mv.apart;
        millions = move_millions;
      }

-- a move keeps book and history side by side
pub move : (v : Values) (last : ℕ) (ts : List Trade) (rs : List Pool) (h : History) → Beside v last ts rs h
    → (tgt : Option ℕ) (fs : List Fields) (ds : List Due) (by_on by_dk : Bool) → Move ts rs h.lots tgt fs ds by_on by_dk
    → Beside v (last + 1) (moved_trades ts rs tgt fs ds) (moved_records last rs tgt fs ds) (record { last_message_id = h.last_message_id + 1; lots = moved_lots h.last_message_id h.lots tgt fs ds by_on by_dk })
move v last ts rs h w tgt fs ds by_on by_dk mv =
    let w₀ : Beside v h.last_message_id ts (flat stands h.lots) h = record { last = refl; table = refl; terms = w.terms; pars = w.pars; lots = w.lots; millions = w.millions } in
    rw (w.table, w.last) (move_flat v ts h tgt fs ds by_on by_dk w₀ (rw w.table at mv))
