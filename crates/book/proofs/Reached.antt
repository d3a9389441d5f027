-- Every state that is reached is sound: opening leaves a sound book, and each fact of soundness outlasts every call, refused or accepted.
-- That open par is par less the weights is the one fact that is given here; it comes from the history.
use Prim.Native.Nat.{ℕ, zero, suc, ◌+◌, ◌-◌, ◌≤◌, ◌<◌}
use mathlib.Core.Path.{◌≡◌, refl, sym, ap, ap₂, ◌∙◌}
use mathlib.Core.Logic.{◌⊎◌, inl, inr}
use mathlib.Core.List.{List, [], ◌∷◌, ◌++◌, map}
use mathlib.Core.Bool.{Bool, true, false, cond, not, ◌&&◌}
use native.Mathlib.Omega.{arith}
use lib.Dec.{eqb, leb}
use lib.ListN.{length, take, drop, replicate, length-append, length-replicate}
use lib.Seq.{take-append_seam, drop-append_seam, length-take-le}
use borrow.Author.Tests.{leb-true, leb-false, le-leb, eq-eqb}
use Rattle.lists.specs.Lists.{keep, all}
use Rattle.lists.proofs.Tests.{◌∈◌, and_left, and_right, both, take_map}
use Rattle.layout.specs.declared.Detail.{Detail}
use Rattle.layout.specs.Details.{details}
use Rattle.terminator.specs.Lots.{Lot}
use Rattle.faces.specs.Faces.{new_lots, new_pools}
use Rattle.sequence.specs.Sequence.{outbound_max, sound_line, line_after, next_outbound, outbound_spent, start_line}
use Rattle.sequence.proofs.Soundness.{start_sound, stays_sound}
use Rattle.book.specs.declared.Trade.{Trade}
use Rattle.book.specs.declared.Values.{Values}
use Rattle.book.specs.declared.Book.{Book}
use Rattle.book.specs.declared.Pool.{Pool}
use Rattle.book.specs.declared.Answer.{Answer}
use Rattle.book.specs.Reasons.{is_accepted, is_silent}
use Rattle.book.specs.Dues.{Due}
use Rattle.book.specs.Records.{distinct, records_of, no_pool, trade_weight}
use Rattle.book.specs.Messages.{type_of, target_of, listed}
use Rattle.book.specs.Trades.{trades_of, trade_name}
use Rattle.book.specs.Opening.{records_max, eleven_digits_max, holidays_of, trade_fine, values_fine, opening_fine, at_par, opened, cleared}
use Rattle.book.specs.Soundness.{live_of, record_fine, in_order, fields_once, is_none, pars_from, Sound, is_sound}
use Rattle.book.specs.Checks.{Call, live, trades, arrived, trade_due, dues, is_taken, taken, answer_of}
use Rattle.message_type.specs.Questions.{is_on, brings_lots, lists_lots, is_cc}
use Rattle.book.specs.Step.{gap_at, line_of, before_aa, outbound_of, with_open_par, trades_moved, live_moved, table_moved, accepted, book_after, table_after}
use Rattle.book.specs.History.{fields_of_lots}
use Rattle.book.specs.Promise.{State, Put, call_of, after, after_all, opened_state}
use Rattle.book.proofs.ByRecord.{all_live, whole_lots, exact_by_record, listed_by_record}
use Rattle.book.proofs.Dues.{due_lots, held_range, dues_lots, dues_all, dues_none}
use Rattle.book.proofs.ListLaws.{or_right, neither_left, all_keep, all_implied, all_both, all_replicate, length_keep}
use Rattle.book.proofs.Passed.{Fine, fine}
use Rattle.book.proofs.Pools.{lots_formed_fields, records_new, listed_none, brought_new, brought_none}
use Rattle.book.proofs.LiveLots.{listed_by_record_law}
use Rattle.book.proofs.Ordered.{is_old, ordered_after}
use Rattle.book.proofs.Matched.{once_after, taken_enough}
use Rattle.book.proofs.Stored.{has_end, new_ends, records_fine, record_stays, record_old}
use Rattle.book.proofs.Kept.{take_moved, moved_blind, trades_alike, exchange, values_stay, last_within, outbound_within, next_within}

-- ---- the test and the facts
pub is_sound_law : (b : Book) (table : List Pool) → is_sound b table ≡ true → Sound b table
unfolding is_sound
is_sound_law b table e =
    let e₁ = and_right (values_fine b.values) _ e in
    let e₂ = and_right (leb (length table) records_max) _ e₁ in
    let e₃ = and_right (sound_line b.values.connection.line) _ e₂ in
    let e₄ = and_right (leb b.live (length table)) _ e₃ in
    let e₅ = and_right (all (record_fine b.values) (live_of b table)) _ e₄ in
    let e₆ = and_right (in_order (live_of b table)) _ e₅ in
    let e₇ = and_right (fields_once (live_of b table)) _ e₆ in
    record {
      values = and_left (values_fine b.values) _ e;
      table_short = and_left (leb (length table) records_max) _ e₁;
      inbound = and_left (sound_line b.values.connection.line) _ e₂;
      live_within = and_left (leb b.live (length table)) _ e₃;
      records = and_left (all (record_fine b.values) (live_of b table)) _ e₄;
      ordered = and_left (in_order (live_of b table)) _ e₅;
      once = and_left (fields_once (live_of b table)) _ e₆;
      zeros = and_left (all is_none (drop b.live table)) _ e₇;
      pars = and_right (all is_none (drop b.live table)) _ e₇;
    }

pub sound_is : (b : Book) (table : List Pool) → Sound b table → is_sound b table ≡ true
unfolding is_sound
sound_is b table s =
    rw (s.values, s.table_short, s.inbound, s.live_within, s.records, s.ordered, s.once, s.zeros, s.pars)

-- ---- opening
pub at_par_blind : {B : Type 0} (f : Trade → B) → ((t : Trade) → f (at_par t) ≡ f t) → (ts : List Trade) → map f (map at_par ts) ≡ map f ts
at_par_blind f h [] = refl
at_par_blind {B} f h (t ∷ ts) = ap₂ (λ (x : B) (xs : List B). x ∷ xs) (h t) (at_par_blind f h ts)

at_par_law : (i : ℕ) (ts : List Trade) → pars_from i (map at_par ts) [] ≡ true
unfolding trade_weight
at_par_law i [] = refl
at_par_law i (t ∷ ts) = both (eqb (t.par + 0) t.par) (pars_from (i + 1) (map at_par ts) []) (eq-eqb (t.par + 0) t.par (omega arith)) (at_par_law (i + 1) ts)

pub opened_sound : (v : Values) (table : List Pool) → opening_fine v table ≡ true → Sound (opened v) (cleared table)
unfolding opening_fine opened cleared
opened_sound v table e =
    let fits : values_fine v ≡ true = and_left (values_fine v) (leb (length table) records_max) e in
    let same : take v.lent.trade_count (map at_par v.trades) ≡ map at_par (trades_of v) = take_map at_par v.lent.trade_count v.trades in
    record {
      values =
          values_stay v (map at_par v.trades) v.last_message_id start_line v.connection.outbound fits (last_within v fits) (outbound_within v fits)
          (trades_alike (holidays_of v) (take v.lent.trade_count (map at_par v.trades)) (trades_of v)
          (ap (map (trade_fine (holidays_of v))) same ∙ at_par_blind (trade_fine (holidays_of v)) (λ (t : Trade). refl) (trades_of v))
          (ap (map trade_name) same ∙ at_par_blind trade_name (λ (t : Trade). refl) (trades_of v)));
      table_short = rw (length-replicate (length table) no_pool) (and_right (values_fine v) (leb (length table) records_max) e);
      inbound = start_sound;
      live_within = le-leb 0 (length (replicate (length table) no_pool)) (omega arith);
      records = refl;
      ordered = refl;
      once = refl;
      zeros = all_replicate is_none (length table) no_pool refl;
      pars = ap (λ (ts : List Trade). pars_from 0 ts []) same ∙ at_par_law 0 (trades_of v);
    }

-- ---- what an accepted message takes off and brings
-- 37 record by record
pub by_record : (c : Call) → lists_lots (type_of c.body) ≡ true → Fine c → listed_by_record c.body (live c) ≡ true
by_record c e f =
    let s = is_sound_law c.book c.table f.sound in
    sym (listed_by_record_law c.body (live c) s.ordered s.once (λ t. rw t at (f.formed (or_right (is_on (type_of c.body)) (is_cc (type_of c.body)) t)))) ∙ f.listed_exact e

module _ (c : Call) (ok : is_accepted (answer_of c) ≡ true) where
  abbrev ds : List Detail
  ds = details c.body

  abbrev last : ℕ
  last = c.book.values.last_message_id

  -- new lots, or none
  abbrev Either : Type 0
  Either = ((brings_lots (type_of c.body) ≡ true) × (due_lots (dues c) ≡ new_lots ds)) ⊎ (dues c ≡ [])

  dues_either : Either
  dues_either = go (brings_lots (type_of c.body)) refl
    where
      go : (b : Bool) → brings_lots (type_of c.body) ≡ b → Either
      go true e = inl (e, dues_lots c.body (trades c) (live c) ∙ brought_new c.body e)
      go false e = inr (dues_none c.body (trades c) (live c) (brought_none c.body e))

  -- fields to take off are found, or none are listed
  listed_either : (lists_lots (type_of c.body) ≡ true) ⊎ (listed c.body ≡ [])
  listed_either = go (lists_lots (type_of c.body)) refl
    where
      go : (b : Bool) → lists_lots (type_of c.body) ≡ b → (lists_lots (type_of c.body) ≡ true) ⊎ (listed c.body ≡ [])
      go true e = inl e
      go false e = inr (listed_none c.body e)

  -- at least as many records go as fields are listed
  gone_enough : length (listed c.body) ≤ length (taken c)
  gone_enough = go listed_either
    where
      go : (lists_lots (type_of c.body) ≡ true) ⊎ (listed c.body ≡ []) → length (listed c.body) ≤ length (taken c)
      go (inr e) =
          let h : length (listed c.body) ≡ 0 = ap length e in
          omega arith
      go (inl t) =
          let exact : exact_by_record (target_of c.body) (listed c.body) (live c) ≡ true = and_left (exact_by_record (target_of c.body) (listed c.body) (live c)) _ (by_record c t (fine c ok)) in
          let rest : (distinct (listed c.body) && whole_lots (target_of c.body) (listed c.body) (live c)) ≡ true =
          and_right (all_live (target_of c.body) (listed c.body) (live c)) (distinct (listed c.body) && whole_lots (target_of c.body) (listed c.body) (live c)) exact in
          taken_enough (target_of c.body) (listed c.body) (live c)
          (and_left (all_live (target_of c.body) (listed c.body) (live c)) (distinct (listed c.body) && whole_lots (target_of c.body) (listed c.body) (live c)) exact)
          (and_left (distinct (listed c.body)) (whole_lots (target_of c.body) (listed c.body) (live c)) rest)

  abbrev stays : Pool → Bool
  stays r = not (is_taken (target_of c.body) (listed c.body) r)

  abbrev new : List Pool
  new = records_of (last + 1) 1 (dues c)

  -- the live records after it fit the table
  pub moved_fits : Sound c.book c.table → length (live_moved c) ≤ length c.table
  unfolding live_moved
  moved_fits s = go dues_either
    where
      split : length (keep stays (live c)) + length (taken c) ≡ length (live c)
      split = length_keep (is_taken (target_of c.body) (listed c.body)) (live c)

      within : c.book.live ≤ length c.table
      within = leb-true c.book.live (length c.table) s.live_within

      size : length (live c) ≡ c.book.live
      size = length-take-le c.book.live c.table within

      sum : length (keep stays (live c) ++ new) ≡ length (keep stays (live c)) + length new
      sum = length-append (keep stays (live c)) new

      go : Either → length (keep stays (live c) ++ new) ≤ length c.table
      go (inl (t, e)) =
          let count : length new ≡ length (new_pools ds) = records_new (last + 1) 1 (dues c) (is_cc (type_of c.body)) ds e ((fine c ok).formed t) in
          let room : length (live c) + length (new_pools ds) ≤ length c.table + length (listed c.body) =
          leb-true (length (live c) + length (new_pools ds)) (length c.table + length (listed c.body)) ((fine c ok).table_fits t) in
          omega (arith, sum, split, gone_enough)
      go (inr e) =
          let count : length new ≡ 0 = ap (λ (us : List Due). length (records_of (last + 1) 1 us)) e in
          omega (arith, sum, split, size, within)

  -- they are in order
  old : Sound c.book c.table → all (is_old last) (live c) ≡ true
  old s = all_implied (record_fine c.book.values) (is_old last) (record_old c.book.values) (live c) s.records

  moved_ordered : Sound c.book c.table → in_order (live_moved c) ≡ true
  unfolding live_moved
  moved_ordered s = ordered_after last (trade_due c.body (trades c) (live c)) stays (live c) (dues c) (dues_all c.body (trades c) (live c)) (old s) s.ordered

  -- no matched fields stand twice under one message ID
  new_distinct : distinct (fields_of_lots (due_lots (dues c))) ≡ true
  new_distinct = go dues_either
    where
      go : Either → distinct (fields_of_lots (due_lots (dues c))) ≡ true
      go (inl (t, e)) =
          ap (λ (ls : List Lot). distinct (fields_of_lots ls)) e ∙ ap distinct (lots_formed_fields (is_cc (type_of c.body)) ds ((fine c ok).formed t)) ∙ (fine c ok).repeated t
      go (inr e) = ap (λ (us : List Due). distinct (fields_of_lots (due_lots us))) e

  moved_once : Sound c.book c.table → fields_once (live_moved c) ≡ true
  unfolding live_moved
  moved_once s = once_after last stays (live c) (dues c) (old s) s.once new_distinct

  -- each is fine by itself
  opened_trade : brings_lots (type_of c.body) ≡ true → (u : Due) → u ∈ dues c → u.to < c.book.values.lent.trade_count
  opened_trade t u m =
      omega (arith, held_range (trades c) (taken c) (dues c) ((fine c ok).par_enough t) u m, short c.book.values.lent.trade_count c.book.values.trades)
    where
      short : (n : ℕ) (ts : List Trade) → length (take n ts) ≤ n
      short zero ts = omega arith
      short (suc n) [] = omega arith
      short (suc n) (x ∷ ts) = omega (arith, short n ts)

  moved_records_law : Sound c.book c.table → (w : Values) → w.lent.trade_count ≡ c.book.values.lent.trade_count → w.last_message_id ≡ last + 1 → all (record_fine w) (live_moved c) ≡ true
  unfolding live_moved
  moved_records_law s w ec el =
      all_both (record_fine w) (keep stays (live c)) new
      (all_keep (record_fine w) stays (live c) (all_implied (record_fine c.book.values) (record_fine w) (record_stays c.book.values w ec (omega arith)) (live c) s.records))
      (go dues_either)
    where
      go : Either → all (record_fine w) new ≡ true
      go (inl (t, e)) =
          let low : leb 1 (last + 1) ≡ true = le-leb 1 (last + 1) (omega arith) in
          let high : leb (last + 1) w.last_message_id ≡ true = le-leb (last + 1) w.last_message_id (omega arith) in
          records_fine w (last + 1) 1 (dues c) (λ u m. rw ec (opened_trade t u m)) (rw (low, high)) (omega arith) (ap (all has_end) e ∙ new_ends ds)
      go (inr e) = ap (λ (us : List Due). all (record_fine w) (records_of (last + 1) 1 us)) e

-- ---- the counters of any call
line_sound : (c : Call) (a : Answer) → sound_line c.book.values.connection.line ≡ true → sound_line (line_of c.book c.body a) ≡ true
line_sound c a e =
    elim (is_silent a) as (λ b. sound_line (cond b c.book.values.connection.line (line_after c.book.values.connection.line (arrived c.body))) ≡ true)
    [ true ↦ e | false ↦ stays_sound c.book.values.connection.line (arrived c.body) e ]

outbound_fits : (c : Call) (a : Answer) → leb c.book.values.connection.outbound.0 outbound_max ≡ true → leb (outbound_of c.book c.body a).0 outbound_max ≡ true
outbound_fits c a e =
    elim (is_silent a) as (λ b. leb (cond b c.book.values.connection.outbound (next_outbound (before_aa c.book c.body))).0 outbound_max ≡ true)
    [ true ↦ e | false ↦ next_within (before_aa c.book c.body) before ]
  where
    before : leb (before_aa c.book c.body).0 outbound_max ≡ true
    before =
        elim (gap_at c.book c.body) as (λ b. leb (cond b (next_outbound c.book.values.connection.outbound) c.book.values.connection.outbound).0 outbound_max ≡ true)
        [ true ↦ next_within c.book.values.connection.outbound e | false ↦ e ]

-- ---- after a call
abbrev book_if : Call → Bool → Book
book_if c ok =
    record {
      values = exchange c.book.values (cond ok (trades_moved c) c.book.values.trades) (cond ok (c.book.values.last_message_id + 1) c.book.values.last_message_id) (line_of c.book c.body (answer_of c)) (outbound_of c.book c.body (answer_of c));
      live = cond ok (length (live_moved c)) c.book.live;
    }

abbrev table_if : Call → Bool → List Pool
table_if c ok = cond ok (table_moved c) c.table

moved_values : (c : Call) → is_accepted (answer_of c) ≡ true → Sound c.book c.table → values_fine (book_if c true).values ≡ true
unfolding trades_moved
moved_values c ok s =
    values_stay v (trades_moved c) (v.last_message_id + 1) (line_of c.book c.body (answer_of c)) (outbound_of c.book c.body (answer_of c)) s.values (le-leb (v.last_message_id + 1) eleven_digits_max (omega (arith, spare)))
    (outbound_fits c (answer_of c) (outbound_within v s.values))
    (trades_alike (holidays_of v) (take v.lent.trade_count (trades_moved c)) (trades_of v)
    (alike (trade_fine (holidays_of v)) (λ t cents. refl)) (alike trade_name (λ t cents. refl)))
  where
    v : Values
    v = c.book.values

    spare : v.last_message_id < eleven_digits_max
    spare = leb-false eleven_digits_max v.last_message_id (neither_left (leb eleven_digits_max v.last_message_id) (outbound_spent v.connection.outbound) (fine c ok).not_spent)

    alike : {B : Type 0} (f : Trade → B) → ((t : Trade) (cents : ℕ) → f (with_open_par t cents) ≡ f t) → map f (take v.lent.trade_count (trades_moved c)) ≡ map f (trades_of v)
    alike f blind = ap (map f) (take_moved (taken c) (dues c) 0 v.lent.trade_count v.trades) ∙ moved_blind f blind (taken c) (dues c) 0 (trades_of v)

moved_zeros : (c : Call) → all is_none (drop (length (live_moved c)) (table_moved c)) ≡ true
unfolding table_moved
moved_zeros c = rw (drop-append_seam (live_moved c) (replicate (length c.table - length (live_moved c)) no_pool)) (all_replicate is_none (length c.table - length (live_moved c)) no_pool refl)

moved_live : (c : Call) → take (length (live_moved c)) (table_moved c) ≡ live_moved c
unfolding table_moved
moved_live c = take-append_seam (live_moved c) (replicate (length c.table - length (live_moved c)) no_pool)

moved_length : (c : Call) → is_accepted (answer_of c) ≡ true → Sound c.book c.table → length (table_moved c) ≡ length c.table
unfolding table_moved
moved_length c ok s =
    let fits : length (live_moved c) ≤ length c.table = moved_fits c ok s in
    length-append (live_moved c) (replicate (length c.table - length (live_moved c)) no_pool)
    ∙ rw (length-replicate (length c.table - length (live_moved c)) no_pool) (omega arith)

-- a refused call moves no more than the counters
refused_sound : (c : Call) → Sound c.book c.table → Sound (book_if c false) c.table
refused_sound c s =
    record {
      values =
          values_stay c.book.values c.book.values.trades c.book.values.last_message_id (line_of c.book c.body (answer_of c)) (outbound_of c.book c.body (answer_of c)) s.values (last_within c.book.values s.values)
          (outbound_fits c (answer_of c) (outbound_within c.book.values s.values)) refl;
      table_short = s.table_short;
      inbound = line_sound c (answer_of c) s.inbound;
      live_within = s.live_within;
      records = s.records;
      ordered = s.ordered;
      once = s.once;
      zeros = s.zeros;
      pars = s.pars;
    }

accepted_sound : (c : Call) → is_accepted (answer_of c) ≡ true → Sound c.book c.table
    → pars_from 0 (trades_of (book_if c true).values) (live_of (book_if c true) (table_moved c)) ≡ true → Sound (book_if c true) (table_moved c)
accepted_sound c ok s p =
    record {
      values = moved_values c ok s;
      table_short = rw (moved_length c ok s) s.table_short;
      inbound = line_sound c (answer_of c) s.inbound;
      live_within = le-leb (length (live_moved c)) (length (table_moved c)) (omega (arith, moved_length c ok s, moved_fits c ok s));
      records = rw (moved_live c) (moved_records_law c ok s (book_if c true).values refl refl);
      ordered = rw (moved_live c) (moved_ordered c ok s);
      once = rw (moved_live c) (moved_once c ok s);
      zeros = moved_zeros c;
      pars = p;
    }

-- soundness outlasts every call after which the open pars hold
pub kept : (c : Call) → Sound c.book c.table → pars_from 0 (trades_of (book_after c).values) (live_of (book_after c) (table_after c)) ≡ true
    → Sound (book_after c) (table_after c)
unfolding book_after table_after
kept c s p = go (accepted c) refl p
  where
    go : (ok : Bool) → accepted c ≡ ok → pars_from 0 (trades_of (book_if c ok).values) (live_of (book_if c ok) (table_if c ok)) ≡ true → Sound (book_if c ok) (table_if c ok)
    go true e q = accepted_sound c e s q
    go false e q = refused_sound c s

-- ---- a list of calls
-- open par is par less the weights
abbrev pub pars_hold : State → Bool
pars_hold s = pars_from 0 (trades_of s.book.values) (live_of s.book s.table)

-- where the open pars hold all along, every state is sound
pub reached : (s : State) → Sound s.book s.table → ((ps : List Put) → pars_hold (after_all s ps) ≡ true) → (ps : List Put)
    → Sound (after_all s ps).book (after_all s ps).table
unfolding after after_all
reached s sound pars [] = sound
reached s sound pars (p ∷ ps) = reached (after s p) (kept (call_of s p) sound (pars (p ∷ []))) (λ (qs : List Put). pars (p ∷ qs)) ps

-- so no call on a book that was opened without refusal is refused by 42
pub reached_sound : (v : Values) (table : List Pool) → opening_fine v table ≡ true → ((ps : List Put) → pars_hold (after_all (opened_state v table) ps) ≡ true) → (ps : List Put)
    → is_sound (after_all (opened_state v table) ps).book (after_all (opened_state v table) ps).table ≡ true
reached_sound v table e pars ps =
    let s : State = after_all (opened_state v table) ps in
    sound_is s.book s.table (reached (opened_state v table) (opened_sound v table e) pars ps)
