-- An accepted call: what its checks give, and that the moves of table, trades and counters are the definitions'.
use Prim.Native.Nat.{ℕ, zero, suc, ◌+◌, ◌*◌, ◌-◌, ◌≤◌, ◌<◌}
use native.Mathlib.Omega.{arith}
use mathlib.Core.Path.{◌≡◌, refl, sym, ap, ◌∙◌}
use mathlib.Core.List.{List, [], ◌∷◌, ◌++◌}
use mathlib.Core.Bool.{Bool, true, false, ◌&&◌}
use lib.ListN.{length, drop, get_or, set, length-take, length-drop}
use lib.Dec.{leb, ltb}
use native.Mathlib.Decide.{dec_lt}
use lib.Seq.{length-take-le, get_or-take}
use borrow.Author.Tests.{leb-true, ltb-true, eq-eqb}
use Rattle.std.specs.Prelude.{Ok}
use Rattle.lists.specs.Lists.{any, all}
use Rattle.lists.proofs.Tests.{and_left, and_right, all_out, keep_first, clash}
use Rattle.layout.specs.Columns.{header_width}
use Rattle.sequence.specs.Sequence.{outbound_max}
use Rattle.message_type.specs.declared.MessageType.{MessageType}
use Rattle.message_type.specs.declared.MessageType.TheVariants.{On, Cc, Dk, Cx, Other}
use Rattle.message_type.specs.Questions.{brings_lots, lists_lots, is_cx, is_other}
use Rattle.calendar.specs.Calendar.{is_date}
use Rattle.book.specs.declared.Caller.{Caller}
use Rattle.book.specs.declared.Values.{Values}
use Rattle.book.specs.declared.Book.{Book}
use Rattle.book.specs.declared.Trade.{Trade}
use Rattle.book.specs.declared.Pool.{Pool}
use Rattle.book.specs.declared.Answer.TheVariants.{Accepted}
use Rattle.book.specs.Reasons.{is_accepted}
use Rattle.book.specs.Dues.{due, due_weight}
use Rattle.book.specs.Records.{trade_weight}
use Rattle.book.specs.Messages.{type_of, target_of, under, listed, brought}
use Rattle.book.specs.Trades.{trades_of}
use Rattle.book.specs.Opening.{trades_max, records_max, eleven_digits_max, holidays_max, holidays_of, limits_fine, account_fine, trade_fine, values_fine}
use Rattle.book.specs.Soundness.{live_of, record_fine, Sound}
use Rattle.book.specs.Checks.{Call, checks, no_trade, trade_at, target_trade, trade_due, dues_by, dues, dues_fit, is_taken, taken}
use Rattle.book.specs.Checks.{answer_to, answer_of}
use Rattle.book.specs.Step.{with_open_par, output_for, trades_moved, live_moved, table_moved, call_with, book_after, table_after, output_after}
use Rattle.book.proofs.ListLaws.{all_keep}
use Rattle.book.proofs.Ordered.{ordered_keep}
use Rattle.book.proofs.Dues.{held_range, held_room, dues_none, dues_first}
use Rattle.book.proofs.Pools.{some_lot, brought_none, brings_some}
use Rattle.book.proofs.Kept.{moved_one, last_within}
use Rattle.book.proofs.Passed.{Fine, fine}
use Rattle.book.proofs.Reached.{is_sound_law, moved_fits}
use Rattle.reply.specs.Counters.{with_counters}
use Rattle.rows_move.specs.Moves.{remaining, bringing, filled, Movable}
use Rattle.rows_move.proofs.Taking.{keep_most}
use Rattle.check_soundness.proofs.Whole.{few_trades, light}
use Rattle.check_soundness.proofs.Weighed.{sum_small}
use Rattle.rows.proofs.Runs.{trade_weight_runs}
use Rattle.check_trader.specs.declared.Decision.{Decision}
use Rattle.check_trader.specs.Decisions.{Moves, DecidedBy}
use Rattle.calls.specs.Calls.{Framed}
use Rattle.table_step.proofs.Answering.{header_there}
use Rattle.book.proofs.Zeros.{zeros_are}
use Rattle.table_step.proofs.Bounds.{left_most}

-- the trades of values in range are fine
trades_fine_law : (v : Values) → values_fine v ≡ true → all (trade_fine (holidays_of v)) (trades_of v) ≡ true
unfolding values_fine
trades_fine_law v e =
    and_left (all (trade_fine (holidays_of v)) (trades_of v)) _
    (past (leb v.connection.outbound.0 outbound_max) (past (leb v.last_message_id eleven_digits_max) (past (limits_fine v.lent.limits)
    (past (account_fine v.connection.id)
    (past (account_fine v.lent.subscriber)
    (past (all is_date (holidays_of v)) (past (leb v.lent.trade_count trades_max && leb v.lent.holiday_count holidays_max) e)))))))
  where
    past : (a : Bool) {b : Bool} → (a && b) ≡ true → b ≡ true
    past a {b} h = and_right a b h

-- past the end stands the empty trade
past_end : (ts : List Trade) (n : ℕ) → length ts ≤ n → trade_at ts n ≡ no_trade
past_end [] n h = refl
past_end (t ∷ ts) zero h = absurd (omega (arith, h))
past_end (t ∷ ts) (suc n) h = past_end ts n (omega (arith, h))

module _ (b : Book) (ps : List Pool) (body : List ℕ) (caller : Caller) (out : List ℕ) (d : Decision)
    (x : DecidedBy checks (call_with b ps body caller out) (Ok d)) where
  abbrev c : Call
  c = call_with b ps body caller out

  abbrev rs : List Pool
  rs = live_of b ps

  abbrev ts : List Trade
  ts = trades_of b.values

  said : answer_of c ≡ Accepted (b.values.last_message_id + 1)
  unfolding answer_of
  said = ap (answer_to c) (sym x.verdict)

  moves : Moves c d
  moves = x.moves

  ok : is_accepted (answer_of c) ≡ true
  ok = ap is_accepted said

  facts : Fine c
  facts = fine c ok

  sure : Sound b ps
  sure = is_sound_law b ps facts.sound

  -- the next ID is a number of eleven digits or one more
  pub last_few : b.values.last_message_id ≤ eleven_digits_max
  last_few = leb-true b.values.last_message_id eleven_digits_max (last_within b.values sure.values)

  -- the header is there
  pub header_fits : header_width ≤ length body
  header_fits = header_there body facts.length_fine

  within : b.live ≤ length ps
  within = leb-true b.live (length ps) sure.live_within

  few : length ps ≤ records_max
  few = leb-true (length ps) records_max sure.table_short

  size : length rs ≡ b.live
  size = length-take-le b.live ps within

  -- ---- the one trade of its lots
  short : length ts ≤ b.values.lent.trade_count
  short = rw length-take (omega arith)

  -- every trade to which a lot is due holds what is due to it (38); a DK brings none
  fit : dues_fit ts (taken c) (dues c) ≡ true
  fit = go (brings_lots (type_of body)) refl
    where
      go : (o : Bool) → brings_lots (type_of body) ≡ o → dues_fit ts (taken c) (dues c) ≡ true
      go true e = facts.par_enough e
      go false e = rw (dues_none body ts rs (brought_none body e))

  target_trade_law : any (under (target_of body)) rs ≡ true → target_trade body rs < b.values.lent.trade_count
  unfolding target_trade
  target_trade_law e =
      let f = keep_first (under (target_of body)) rs e in
      let l =
      ltb-true f.0.trade b.values.lent.trade_count (and_left (ltb f.0.trade b.values.lent.trade_count) _ (all_out (record_fine b.values) f.1 sure.records)) in
      rw f.3.1 l

  trade_opened : trade_due body ts rs < b.values.lent.trade_count
  trade_opened = go (type_of body) refl
    where
      by_par : brings_lots (type_of body) ≡ true → trade_due body ts rs < b.values.lent.trade_count
      by_par o =
          let (l, (ls, e)) = some_lot (brought body) (brings_some body facts.length_fine facts.formed facts.grouped o) in
          omega (arith, short, held_range ts (taken c) (dues c) fit (due (trade_due body ts rs) l) (dues_first body ts rs l ls e))

      go : (k : MessageType) → type_of body ≡ k → trade_due body ts rs < b.values.lent.trade_count
      go On e = by_par (ap brings_lots e)
      go Cc e = by_par (ap brings_lots e)
      go Dk e = rw e (target_trade_law (facts.target_live (ap lists_lots e)))
      go Cx e = clash (ap is_cx e) facts.not_cancel
      go Other e = clash (ap is_other e) facts.not_other

  trade_known : d.trade < b.values.lent.trade_count
  trade_known = rw moves.trade trade_opened

  pub trade_few : d.trade < trades_max
  trade_few = omega (arith, trade_known, few_trades b.values sure.values)

  there : trade_at ts d.trade ≡ get_or b.values.trades d.trade no_trade
  there = get_or-take b.values.lent.trade_count b.values.trades d.trade no_trade trade_known

  off_at : trade_weight d.trade (taken c) ≡ d.off
  off_at = moves.off d.trade ∙ rw (eq-eqb d.trade d.trade refl)

  brought_at : due_weight d.trade (dues c) ≡ d.brought
  brought_at = moves.brought d.trade ∙ rw (eq-eqb d.trade d.trade refl)

  -- what comes is no more than what stands open and goes
  pub par_covers : d.brought ≤ (get_or b.values.trades d.trade no_trade).open_par + d.off
  par_covers = omega (arith, held_room ts (taken c) (dues c) fit d.trade, off_at, brought_at, ap (λ (t : Trade). t.open_par) there)

  weight_few : trade_weight d.trade (taken c) ≤ records_max * eleven_digits_max
  weight_few =
      let taking = is_taken (target_of body) (listed body) in
      let fine_ones = all_keep (record_fine b.values) taking rs sure.records in
      let w = trade_weight_runs b.values (taken c) (ordered_keep taking rs sure.ordered) fine_ones d.trade in
      let l = sum_small d.trade 0 0 (taken c) (light b.values (few_trades b.values sure.values) (taken c) fine_ones) in
      omega (arith, w, l, keep_most taking rs, size, within, few)

  left_few : (trade_at ts d.trade).open_par ≤ eleven_digits_max
  left_few = go (dec_lt d.trade (length ts))
    where
      go : Dec (d.trade < length ts) → (trade_at ts d.trade).open_par ≤ eleven_digits_max
      go (yes h) = left_most (holidays_of b.values) 0 d.trade ts rs sure.pars (trades_fine_law b.values sure.values) h
      go (no n) = rw (past_end ts d.trade (omega (arith, n))) (omega arith)

  pub par_fits : (get_or b.values.trades d.trade no_trade).open_par + d.off ≤ 9000000000000000000
  par_fits = omega (arith, weight_few, left_few, off_at, ap (λ (t : Trade). t.open_par) there)

  -- ---- the table
  pub movable : length d.marks ≡ records_max → Movable body ps b.live d.marks
  movable l =
      record {
        within = within;
        marks = omega (arith, l, within, few);
        told = λ i h. moves.marked i (omega (arith, size, h));
        zeros = zeros_are (drop b.live ps) (length ps - b.live) (length-drop b.live ps) sure.zeros;
      }

  abbrev after : List Pool
  after = remaining body rs ++ bringing body (b.values.last_message_id + 1) d.trade

  live_is : live_moved c ≡ after
  unfolding live_moved dues_by
  live_is = rw moves.trade

  pub after_fits : length after ≤ length ps
  after_fits = omega (arith, ap length live_is, moved_fits c ok sure)

  -- ---- all that it leaves
  moved_is : set b.values.trades d.trade
      (with_open_par (get_or b.values.trades d.trade no_trade) (((get_or b.values.trades d.trade no_trade).open_par + d.off) - d.brought))
      ≡ trades_moved c
  unfolding trades_moved
  moved_is = moved_one (taken c) (dues c) d.trade d.off d.brought moves.off moves.brought b.values.trades

  filled_is : filled (length ps) after ≡ table_moved c
  unfolding table_moved
  filled_is = rw live_is

  abbrev counted_as : Book
  counted_as = with_counters b body (Accepted (b.values.last_message_id + 1))

  pub accepted_frame : (counted : Book) (n : ℕ) (ps' : List Pool) (out' : List ℕ) → counted ≡ counted_as → n ≡ length after → ps' ≡ filled (length ps) after
      → out' ≡ output_for b body (Accepted (b.values.last_message_id + 1)) caller out
      → Framed b ps body caller out
      (record {
        book =
            record {
              values =
                  record {
                    trades =
                        set counted.values.trades d.trade
                        (with_open_par (get_or counted.values.trades d.trade no_trade)
                        (((get_or b.values.trades d.trade no_trade).open_par + d.off) - d.brought));
                    lent = counted.values.lent;
                    last_message_id = b.values.last_message_id + 1;
                    connection = counted.values.connection;
                  };
              live = n;
            };
        answer = Accepted (b.values.last_message_id + 1);
      })
      ps' out'
  unfolding book_after table_after output_after with_counters
  accepted_frame counted n ps' out' ec en et eo =
      record {
        answer = sym said;
        book = rw (ec, en, said, sym moved_is, live_is);
        table = et ∙ rw (said, sym filled_is);
        output = eo ∙ rw said;
      }
