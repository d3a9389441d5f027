-- What a frame call leaves (01, "The book", "What goes out"): answer, book, table, output and tally after it, for any book, table, body, caller and output.
use Rattle.std.specs.Prelude.{ℕ, ◌+◌, ◌-◌, List, [], ◌∷◌, ◌++◌, Bool, true, false, cond, not, length, replicate}
use Rattle.lists.specs.Lists.{keep, pasted}
use Rattle.layout.specs.Columns as columns
use Rattle.layout.specs.Columns.{bytes_in}
use Rattle.sequence.specs.declared.Arrival.{Arrival}
use Rattle.sequence.specs.declared.Arrival.TheVariants.{Refused, Duplicate, Expected, Gap}
use Rattle.sequence.specs.declared.Line.{Line}
use Rattle.sequence.specs.declared.Outbound.{Outbound}
use Rattle.sequence.specs.Sequence.{arrival_of, line_after, next_outbound}
use Rattle.acknowledgment.specs.declared.Acknowledged.{Acknowledged}
use Rattle.acknowledgment.specs.declared.Stamp.{Stamp}
use Rattle.acknowledgment.specs.Frames.{next_stamp, aa_bytes, tx_bytes, tx_length}
use Rattle.tally.specs.declared.Outcome.{Outcome}
use Rattle.tally.specs.declared.Outcome.TheVariants as outcome
use Rattle.tally.specs.Tally.{raised}
use Rattle.book.specs.declared.Trade.{Trade}
use Rattle.book.specs.declared.Values.{Values}
use Rattle.book.specs.declared.Book.{Book}
use Rattle.book.specs.declared.Pool.{Pool}
use Rattle.book.specs.declared.Caller.{Caller}
use Rattle.book.specs.declared.Answer.{Answer}
use Rattle.book.specs.declared.Answer.TheVariants.{Accepted, Rejected, Dked}
use Rattle.book.specs.Reasons.{code_of, id_of, is_accepted, is_silent}
use Rattle.book.specs.Dues.{Due, due_weight}
use Rattle.book.specs.Records.{records_of, trade_weight, no_pool}
use Rattle.book.specs.Messages.{type_of, target_of, listed}
use Rattle.book.specs.Checks.{Call, call, asked_by, live, arrived, dues, is_taken, taken, answer_of}

-- a gap is told by a TX; a duplicate is none
abbrev pub is_gap : Arrival → Bool
is_gap Refused = false
is_gap Duplicate = false
is_gap Expected = false
is_gap Gap = true

abbrev pub gap_at : Book → List ℕ → Bool
gap_at book body = is_gap (arrival_of book.values.connection.line (arrived body))

-- ---- the counters: after a duplicate the line stays as it is, and after every other number it moves
abbrev pub line_of : Book → List ℕ → Answer → Line
line_of book body a = cond (is_silent a) book.values.connection.line (line_after book.values.connection.line (arrived body))

-- the outbound number of the AA: one more than the last, or than that of the TX before it
abbrev pub before_aa : Book → List ℕ → Outbound
before_aa book body = cond (gap_at book body) (next_outbound book.values.connection.outbound) book.values.connection.outbound

abbrev pub outbound_of : Book → List ℕ → Answer → Outbound
outbound_of book body a = cond (is_silent a) book.values.connection.outbound (next_outbound (before_aa book body))

-- ---- trades and pools: what an accepted message takes off and brings
-- a trade with another open par
abbrev pub with_open_par : Trade → ℕ → Trade
with_open_par t cents =
    record {
      id = t.id;
      length = t.length;
      seller = t.seller;
      buyer = t.buyer;
      contra = t.contra;
      cusip = t.cusip;
      settlement = t.settlement;
      price = t.price;
      par = t.par;
      open_par = cents;
    }

-- open par moves by the weights: each trade's by what is taken off it and what is due to it
abbrev pub trade_moved : List Pool → List Due → ℕ → Trade → Trade
trade_moved off ds i t = with_open_par t ((t.open_par + trade_weight i off) - due_weight i ds)

abbrev pub pars_moved : List Pool → List Due → ℕ → List Trade → List Trade
pars_moved off ds i [] = []
pars_moved off ds i (t ∷ ts) = trade_moved off ds i t ∷ pars_moved off ds (i + 1) ts

unfoldable pub trades_moved : Call → List Trade
trades_moved c = pars_moved (taken c) (dues c) 0 c.book.values.trades

-- the listed lots go, then the new ones come under the new ID
unfoldable pub live_moved : Call → List Pool
live_moved c =
    keep (λ (r : Pool). not (is_taken (target_of c.body) (listed c.body) r)) (live c)
    ++ records_of (c.book.values.last_message_id + 1) 1 (dues c)

-- the table closed up, with zeros after the live records
unfoldable pub table_moved : Call → List Pool
table_moved c = live_moved c ++ replicate (length c.table - length (live_moved c)) no_pool

-- ---- after the call
abbrev pub accepted : Call → Bool
accepted c = is_accepted (answer_of c)

abbrev pub trades_after : Call → List Trade
trades_after c = cond (accepted c) (trades_moved c) c.book.values.trades

abbrev pub last_after : Call → ℕ
last_after c = cond (accepted c) (c.book.values.last_message_id + 1) c.book.values.last_message_id

abbrev pub values_after : Call → Values
values_after c =
    record {
      trades = trades_after c;
      lent = c.book.values.lent;
      last_message_id = last_after c;
      connection = record { id = c.book.values.connection.id; line = line_of c.book c.body (answer_of c); outbound = outbound_of c.book c.body (answer_of c) };
    }

unfoldable pub book_after : Call → Book
book_after c =
    record {
      values = values_after c;
      live = cond (accepted c) (length (live_moved c)) c.book.live;
    }

unfoldable pub table_after : Call → List Pool
table_after c = cond (accepted c) (table_moved c) c.table

-- ---- what goes out: on a gap a TX first, then the AA; the rest of the output stays
abbrev pub acknowledged : List ℕ → Answer → Caller → Acknowledged
acknowledged body a caller =
    record {
      internal = bytes_in body columns.internal_id;
      message = id_of a;
      code = code_of a;
      time = caller.time;
      original = bytes_in body columns.sequence;
    }

-- what the last frame that went out was stamped with, where its number is known
abbrev pub stamp_at : Book → Outbound → Stamp
stamp_at book number = record { number = number; subscriber = book.values.lent.subscriber; connection = book.values.connection.id }

abbrev pub with_tx : Book → List ℕ → List ℕ → List ℕ
with_tx book body out =
    cond (gap_at book body)
    (pasted out 0 (tx_bytes (next_stamp (stamp_at book book.values.connection.outbound)) book.values.connection.line.expected (arrived body)))
    out

abbrev pub aa_at : Book → List ℕ → ℕ
aa_at book body = cond (gap_at book body) tx_length 0

-- the output after an answer
unfoldable pub output_for : Book → List ℕ → Answer → Caller → List ℕ → List ℕ
output_for book body a caller out =
    cond (is_silent a) out
    (pasted (with_tx book body out) (aa_at book body) (aa_bytes (next_stamp (stamp_at book (before_aa book body))) (acknowledged body a caller)))

unfoldable pub output_after : Call → List ℕ → List ℕ
output_after c out = output_for c.book c.body (answer_of c) c.asked.caller out

-- ---- the tally: silent refusals are not in it
abbrev pub outcome_of : Answer → Outcome
outcome_of (Accepted id) = outcome.Accepted
outcome_of (Rejected r) = outcome.Rejected
outcome_of (Dked r) = outcome.Dked

unfoldable pub tally_after : List ℕ → Answer → List (List ℕ) → List (List ℕ)
tally_after body a tally = cond (is_silent a) tally (raised tally (type_of body) (outcome_of a))

-- a call on a book and a table with a body, by a caller, and an output whose length is its room
abbrev pub call_with : Book → List Pool → List ℕ → Caller → List ℕ → Call
call_with book table body caller out = call book table body (asked_by caller (length out))
