-- Every call keeps book and history side by side: a refused one changes neither, an accepted one is a move. What the promise says can be read off them.
use mathlib.Core.Path.{◌≡◌, refl, sym, ap, ◌∙◌}
use mathlib.Core.Bool.{Bool, true, false, not, cond, ◌||◌}
use mathlib.Core.List.Memᴰ
use mathlib.Core.List.{List, [], ◌∷◌, ◌++◌}
use Prim.Native.Nat.{ℕ, suc, ◌+◌, ◌-◌, ◌<◌}
use native.Mathlib.Nat.{add-zero, zero-add}
use native.Mathlib.Omega.{arith}
use lib.Dec.{eqb}
use lib.ListN.{length, get_or, take, replicate, get_or-map}
use lib.Seq.{take-append_seam}
use borrow.Author.Tests.{eq-eqb, eqb-true}
use Rattle.lists.specs.Lists.{keep, any, all, sum_of}
use Rattle.lists.proofs.Tests.{◌∈◌, and_left, and_right, both, clash, implied, any_in, sum_same, take_map}
use Rattle.layout.specs.Details.{details}
use Rattle.terminator.specs.Lots.{Lot, pools_of, lot_weight, lot_millions}
use Rattle.message_type.specs.declared.MessageType.{MessageType}
use Rattle.message_type.specs.declared.MessageType.TheVariants.{On, Cc, Dk, Cx, Other}
use Rattle.book.specs.declared.Trade.{Trade}
use Rattle.book.specs.declared.Values.{Values}
use Rattle.book.specs.declared.Pool.{Pool}
use Rattle.book.specs.Reasons.{is_accepted}
use Rattle.book.specs.Records.{Fields, fields_of, no_pool, LiveLot, live_lots, live_weight, live_millions, of_trade, trade_weight, standing_millions}
use Rattle.book.specs.Messages.{type_of, target_of, listed}
use Rattle.book.specs.Trades.{trades_of}
use Rattle.book.specs.Opening.{at_par, opened}
use Rattle.book.specs.Soundness.{live_of, pars_from}
use Rattle.book.specs.Checks.{Call, live, trades, dues, trade_at, no_trade, taken, canceled_lots, answer_of}
use Rattle.message_type.specs.Questions.{is_other, is_cc, is_cx, brings_lots, lists_lots}
use Rattle.book.specs.Step.{trades_moved, live_moved, table_moved, book_after, table_after}
use Rattle.book.specs.History.{Brought, History, is_target, touches, stands, trade_share, standing_weight, millions_by_ons, millions_by_dks, at_opening, lots_after, feed, takes_off}
use Rattle.book.specs.Promise.{State, opened_state, Source}
use Rattle.book.proofs.ByRecord.{exact_by_record, one_by_record}
use Rattle.book.proofs.Kept.{take_moved}
use Rattle.book.proofs.Passed.{Fine, fine}
use Rattle.book.proofs.Pools.{listed_none}
use Rattle.book.proofs.Reached.{at_par_blind, pars_hold, by_record}
use Rattle.book.proofs.Targets.{has_in}
use Rattle.book.proofs.Laid.{flat, laid_lot, trade_flat, cond_swap, laid_weight, laid_millions}
use Rattle.book.proofs.Taking.{Exact, exact, is_listed, standing, first_time, listed_lot}
use Rattle.book.proofs.Moving.{Beside, Move, same_count, moved_trades, moved_records, moved_lots, move}
use Rattle.book.proofs.Stepping.{on_move, on_lots, dk_move, dk_lots, cc_move, cc_lots}

-- a state in step with the history of the same calls
abbrev pub InStep : Values → State → History → Type 0
InStep v s h = Beside v s.book.values.last_message_id (trades_of s.book.values) (live_of s.book s.table) h

-- ---- an accepted call is a move

-- what 37 says of the listed pools alone
listed_exact_law : (c : Call) → lists_lots (type_of c.body) ≡ true → Fine c → exact_by_record (target_of c.body) (listed c.body) (live c) ≡ true
listed_exact_law c e f =
    and_left (exact_by_record (target_of c.body) (listed c.body) (live c)) (not (is_cc (type_of c.body)) || all (one_by_record (target_of c.body) (live c)) (canceled_lots (details c.body)))
    (by_record c e f)

-- and of a CC's 6 lots
canceled_exact : (c : Call) → type_of c.body ≡ Cc → Fine c → all (one_by_record (target_of c.body) (live c)) (canceled_lots (details c.body)) ≡ true
canceled_exact c e f =
    implied (is_cc (type_of c.body)) (all (one_by_record (target_of c.body) (live c)) (canceled_lots (details c.body)))
    (and_right (exact_by_record (target_of c.body) (listed c.body) (live c)) (not (is_cc (type_of c.body)) || all (one_by_record (target_of c.body) (live c)) (canceled_lots (details c.body)))
    (by_record c (ap lists_lots e) f))
    (ap is_cc e)

module _ (v : Values) (c : Call) (h : History) (w : Beside v c.book.values.last_message_id (trades c) (live c) h) where
  -- the flags of a message's lots, its move, and that the history makes the same lots of it
  pub record Moves (by_on by_dk : Bool) : Type 0 where
    pub moves : Move (trades c) (live c) h.lots (target_of c.body) (listed c.body) (dues c) by_on by_dk
    pub makes : moved_lots h.last_message_id h.lots (target_of c.body) (listed c.body) (dues c) by_on by_dk
        ≡ lots_after (type_of c.body) v (h.last_message_id + 1) c.body h.lots

  moves_on : type_of c.body ≡ On → Fine c → Moves true false
  moves_on e f =
      record {
        moves = on_move v c.book.values.last_message_id (trades c) (live c) h w c.body e (is_cc (type_of c.body)) (f.formed (ap brings_lots e)) (f.repeated (ap brings_lots e))
            (f.par_enough (ap brings_lots e));
        makes = rw e (on_lots v c.book.values.last_message_id (trades c) (live c) h w c.body e);
      }

  moves_dk : type_of c.body ≡ Dk → Fine c → Moves false true
  moves_dk e f =
      record {
        moves = dk_move v c.book.values.last_message_id (trades c) (live c) h w c.body (f.target_live (ap lists_lots e)) (listed_exact_law c (ap lists_lots e) f) e;
        makes = rw e (dk_lots v c.book.values.last_message_id (trades c) (live c) h w c.body (f.target_live (ap lists_lots e)) (listed_exact_law c (ap lists_lots e) f) e);
      }

  moves_cc : type_of c.body ≡ Cc → Fine c → Moves false false
  moves_cc e f =
      record {
        moves = cc_move v c.book.values.last_message_id (trades c) (live c) h w c.body (f.target_live (ap lists_lots e)) (listed_exact_law c (ap lists_lots e) f) e
            (is_cc (type_of c.body)) (f.formed (ap brings_lots e)) (f.repeated (ap brings_lots e)) (f.balanced (ap is_cc e)) (canceled_exact c e f) (f.par_enough (ap brings_lots e));
        makes = rw e (cc_lots v c.book.values.last_message_id (trades c) (live c) h w c.body (f.target_live (ap lists_lots e)) (listed_exact_law c (ap lists_lots e) f) e
            (is_cc (type_of c.body)) (f.formed (ap brings_lots e)) (f.grouped (ap is_cc e)));
      }

  -- some flags, for one of the three types that are accepted
  accepted_moves : is_accepted (answer_of c) ≡ true → (by_on : Bool) × ((by_dk : Bool) × Moves by_on by_dk)
  accepted_moves a = go (type_of c.body) refl (fine c a)
    where
      go : (k : MessageType) → type_of c.body ≡ k → Fine c → (by_on : Bool) × ((by_dk : Bool) × Moves by_on by_dk)
      go On e f = (true, (false, moves_on e f))
      go Cc e f = (false, (false, moves_cc e f))
      go Dk e f = (false, (true, moves_dk e f))
      go Cx e f = clash (ap is_cx e) f.not_cancel
      go Other e f = clash (ap is_other e) f.not_other

-- ---- every call

carry : (v : Values) (last : ℕ) (ts : List Trade) (rs : List Pool) (id : ℕ) (xs ys : List Brought) → xs ≡ ys
    → Beside v last ts rs (record { last_message_id = id; lots = xs }) → Beside v last ts rs (record { last_message_id = id; lots = ys })
carry v last ts rs id xs ys p w = rw p at w

moved : (v : Values) (c : Call) (h : History) → Beside v c.book.values.last_message_id (trades c) (live c) h → is_accepted (answer_of c) ≡ true
    → Beside v (c.book.values.last_message_id + 1) (take c.book.values.lent.trade_count (trades_moved c)) (live_moved c)
    (record { last_message_id = h.last_message_id + 1; lots = lots_after (type_of c.body) v (h.last_message_id + 1) c.body h.lots })
unfolding live_moved trades_moved
moved v c h w a =
    let (by_on, (by_dk, m)) = accepted_moves v c h w a in
    rw (take_moved (taken c) (dues c) 0 c.book.values.lent.trade_count c.book.values.trades)
    (carry v (c.book.values.last_message_id + 1) (moved_trades (trades c) (live c) (target_of c.body) (listed c.body) (dues c))
    (moved_records c.book.values.last_message_id (live c) (target_of c.body) (listed c.body) (dues c)) (h.last_message_id + 1)
    (moved_lots h.last_message_id h.lots (target_of c.body) (listed c.body) (dues c) by_on by_dk)
    (lots_after (type_of c.body) v (h.last_message_id + 1) c.body h.lots) m.makes
    (move v c.book.values.last_message_id (trades c) (live c) h w (target_of c.body) (listed c.body) (dues c) by_on by_dk m.moves))

pub call_in_step : (v : Values) (c : Call) (h : History) → Beside v c.book.values.last_message_id (trades c) (live c) h
    → Beside v (book_after c).values.last_message_id (trades_of (book_after c).values) (live_of (book_after c) (table_after c)) (feed v h c.body (is_accepted (answer_of c)))
unfolding book_after table_after feed table_moved
call_in_step v c h w = go (is_accepted (answer_of c)) refl
  where
    go : (a : Bool) → is_accepted (answer_of c) ≡ a
        → Beside v (cond a (c.book.values.last_message_id + 1) c.book.values.last_message_id)
        (take c.book.values.lent.trade_count (cond a (trades_moved c) c.book.values.trades))
        (take (cond a (length (live_moved c)) c.book.live) (cond a (live_moved c ++ replicate (length c.table - length (live_moved c)) no_pool) c.table))
        (cond a (record { last_message_id = h.last_message_id + 1; lots = lots_after (type_of c.body) v (h.last_message_id + 1) c.body h.lots }) h)
    go true e = rw (take-append_seam (live_moved c) (replicate (length c.table - length (live_moved c)) no_pool)) (moved v c h w e)
    go false e = w

-- ---- opening

pub opened_in_step : (v : Values) (table : List Pool) → InStep v (opened_state v table) (at_opening v)
unfolding opened standing_weight millions_by_dks millions_by_ons
opened_in_step v table =
    record {
      last = refl;
      table = refl;
      terms = rw (take_map at_par v.lent.trade_count v.trades) (at_par_blind at_par (λ t. refl) (trades_of v));
      pars = λ t lt. rw (take_map at_par v.lent.trade_count v.trades) (omega (arith, ap (λ (x : Trade). x.open_par) (get_or-map at_par (trades_of v) t no_trade)));
      lots = record { fine = λ g m. absurd (Memᴰ.not-nil m); apart = tt; pair = λ g k m n e. absurd (Memᴰ.not-nil m) };
      millions = λ t. refl;
    }

-- ---- what can be read off

-- a trade's sum over the live records is its sum over the standing lots
standing_sum : (v : Values) (s : State) (h : History) → InStep v s h → (value : LiveLot → ℕ) (of : Lot → ℕ) → ((g : Brought) → value (laid_lot g) ≡ of g.lot) → (t : ℕ)
    → sum_of value (keep (of_trade t) (live_lots (live_of s.book s.table))) ≡ sum_of (trade_share t (standing of)) h.lots
standing_sum v s h w value of k t =
    rw w.table
    (trade_flat value (λ g. of g.lot) k t stands h.lots w.lots.apart
    ∙ sum_same (λ g. cond (stands g) (cond (eqb g.trade t) (of g.lot) 0) 0) (trade_share t (standing of)) h.lots (λ g m. cond_swap (stands g) (eqb g.trade t) (of g.lot)))

standing_millions_law : (v : Values) (s : State) (h : History) → InStep v s h → (t : ℕ) → standing_millions t (live_of s.book s.table) ≡ sum_of (trade_share t (standing lot_millions)) h.lots
unfolding standing_millions
standing_millions_law v s h w t = standing_sum v s h w live_millions lot_millions laid_millions t

standing_weight_law : (v : Values) (s : State) (h : History) → InStep v s h → (t : ℕ) → trade_weight t (live_of s.book s.table) ≡ standing_weight t h.lots
unfolding trade_weight standing_weight
standing_weight_law v s h w t = standing_sum v s h w live_weight lot_weight laid_weight t

-- standing millions are those that ONs brought less those that DKs took off
pub in_step_millions : (v : Values) (s : State) (h : History) → InStep v s h → (t : ℕ) → standing_millions t (live_of s.book s.table) + millions_by_dks t h.lots ≡ millions_by_ons t h.lots
in_step_millions v s h w t = omega (arith, standing_millions_law v s h w t, w.millions t)

-- the open pars agree with the table: what the soundness of a book asks of them
pars_from_law : (i : ℕ) (ts : List Trade) (rs : List Pool) → ((j : ℕ) → j < length ts → (trade_at ts j).open_par + trade_weight (i + j) rs ≡ (trade_at ts j).par) → pars_from i ts rs ≡ true
pars_from_law i [] rs k = refl
pars_from_law i (t ∷ ts) rs k =
    both (eqb (t.open_par + trade_weight i rs) t.par) (pars_from (i + 1) ts rs)
    (eq-eqb (t.open_par + trade_weight i rs) t.par (rw add-zero at (k 0 (omega arith))))
    (pars_from_law (i + 1) ts rs (λ j lt. let e : i + 1 + j ≡ i + suc j = omega arith in rw e (k (suc j) (omega arith))))

pub in_step_pars : (v : Values) (s : State) (h : History) → InStep v s h → pars_hold s ≡ true
in_step_pars v s h w =
    pars_from_law 0 (trades_of s.book.values) (live_of s.book s.table)
    (λ j lt.
    let ts : List Trade = trades_of s.book.values in
    let par : (trade_at ts j).par ≡ (trade_at (trades_of v) j).par =
    sym (ap (λ (t : Trade). t.par) (get_or-map at_par ts j no_trade))
    ∙ ap (λ (l : List Trade). (get_or l j no_trade).par) w.terms
    ∙ ap (λ (t : Trade). t.par) (get_or-map at_par (trades_of v) j no_trade) in
    rw zero-add (omega (arith, par, standing_weight_law v s h w j, w.pars j (omega (arith, same_count v ts w.terms)))))

module _ (v : Values) (c : Call) (h : History) (w : Beside v c.book.values.last_message_id (trades c) (live c) h) (a : is_accepted (answer_of c) ≡ true) where
  exact_flat : lists_lots (type_of c.body) ≡ true → Exact (target_of c.body) (listed c.body) (flat stands h.lots)
  exact_flat e = rw w.table at (exact (target_of c.body) (listed c.body) (live c) (listed_exact_law c e (fine c a)))

  touched_stands : lists_lots (type_of c.body) ≡ true → (g : Brought) → g ∈ h.lots → touches (target_of c.body) (listed c.body) g ≡ true → g.offs ≡ 0
  touched_stands e g m q =
      eqb-true g.offs 0 (first_time (target_of c.body) (listed c.body) h.lots (length (trades_of v)) h.last_message_id w.lots (exact_flat e).live g m q)

  pub taken_stands : (g : Brought) → g ∈ h.lots → takes_off c.body g ≡ true → g.offs ≡ 0
  unfolding takes_off
  taken_stands g m q = touched_stands (and_left (lists_lots (type_of c.body)) _ q) g m (and_right (lists_lots (type_of c.body)) _ q)

  pub listed_source : (pool : Fields) → pool ∈ listed c.body → Source h.lots c.body pool
  unfolding takes_off
  listed_source pool m = go (lists_lots (type_of c.body)) refl
    where
      go : (b : Bool) → lists_lots (type_of c.body) ≡ b → Source h.lots c.body pool
      go true e =
          let (g, mg, sg, tg, (d, md, ed)) = listed_lot (target_of c.body) (listed c.body) h.lots (exact_flat e).live pool m in
          record {
            lot = g;
            brought = mg;
            under_target = tg;
            stood = eqb-true g.offs 0 sg;
            taken = both (lists_lots (type_of c.body)) _ e (both (is_target (target_of c.body) g.id) (any (is_listed (listed c.body)) (pools_of g.lot)) tg (any_in (is_listed (listed c.body)) md (rw ed (has_in m))));
            its_pool = Memᴰ.cast (sym ed) (Memᴰ.map fields_of md);
          }
      go false e = absurd (Memᴰ.not-nil (rw (listed_none c.body e) at m))
