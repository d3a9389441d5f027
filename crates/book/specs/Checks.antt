-- The checks of a frame call in their order (01, "Who causes which number"), the first that fails, and the answer that follows from it.
use Rattle.std.specs.Prelude.{Option, is_some, unwrap_or}
use Rattle.std.specs.Prelude.{Ok, Err, ℕ, ◌+◌, List, [], ◌∷◌, ◌++◌, map, Bool, true, false, cond, not, ◌&&◌, ◌||◌, length, get_or, eqb, leb, ltb}
use Rattle.lists.specs.Lists.{same, keep, any, all}
use Rattle.fields.specs.Fields.{holds, all_blank}
use Rattle.output.specs.Output.{blanks}
use Rattle.layout.specs.declared.Column.{Column}
use Rattle.layout.specs.declared.Detail.{Detail}
use Rattle.layout.specs.Columns as columns
use Rattle.layout.specs.Columns.{bytes_in, number_in}
use Rattle.layout.specs.Details.{length_fits, details}
use Rattle.terminator.specs.Lots.{Lot, pools_of, lots, lot_kind, lot_millions, formed_for, good_millions, replacement_count}
use Rattle.terminator.specs.Groups.{lot_canceled, groups_formed, groups_balanced}
use Rattle.faces.specs.Faces.{new_pools, faces_fail, lots_fail}
use Rattle.calendar.specs.Calendar.{business_date}
use Rattle.sequence.specs.declared.Inbound.{Inbound}
use Rattle.sequence.specs.declared.Arrival.{Arrival}
use Rattle.sequence.specs.declared.Arrival.TheVariants.{Refused, Duplicate, Expected, Gap}
use Rattle.sequence.specs.declared.Line.{Line}
use Rattle.sequence.specs.Sequence.{inbound, is_refused, arrival_of, outbound_spent}
use Rattle.acknowledgment.specs.Frames.{version, tx_length, aa_length}
use Rattle.message_type.specs.declared.MessageType.{MessageType}
use Rattle.trade_id.specs.declared.TradeId.{TradeId}
use Rattle.trade_id.specs.declared.TradeId.TheVariants.{Whole, Broken, Absent}
use Rattle.message_type.specs.Questions.{is_on, is_cc, is_dk, is_cx, is_other, brings_lots, lists_lots}
use Rattle.book.specs.declared.Trade.{Trade}
use Rattle.book.specs.declared.Values.{Values}
use Rattle.book.specs.declared.Book.{Book}
use Rattle.book.specs.declared.Pool.{Pool}
use Rattle.book.specs.declared.Caller.{Caller}
use Rattle.book.specs.declared.Reason.{Reason}
use Rattle.book.specs.declared.Reason.TheVariants as by
use Rattle.book.specs.declared.Answer.{Answer}
use Rattle.book.specs.declared.Answer.TheVariants.{Accepted}
use Rattle.book.specs.Reasons.{Verdict, silent, told, refusal}
use Rattle.book.specs.Dues.{Due, due, due_weight}
use Rattle.book.specs.Records.{Fields, fields_of, live_fields, has_fields, distinct, kind_number, LiveLot, live_pools, live_lots, trade_weight}
use Rattle.book.specs.Messages.{type_of, ftba, fsti, is_stipulated, id_in, target_of, under, listed, brought}
use Rattle.book.specs.Trades.{trades_of, agrees, is_named_by, first_trade, trade_of_on, open_pars}
use Rattle.book.specs.Opening.{holidays_of, eleven_digits_max}
use Rattle.book.specs.Soundness.{live_of, Held, held_in, holds_sound}

-- what the caller of a frame call gives besides book, table and body: what it lends by value, and the room in its output
pub record Asked : Type 0 where
  pub caller : Caller
  pub room : ℕ

-- what a frame call is given
pub record Call : Type 0 where
  pub book : Book
  pub table : List Pool
  pub body : List ℕ
  pub asked : Asked

-- the one maker of a call
abbrev pub call : Book → List Pool → List ℕ → Asked → Call
call book table body asked = record { book = book; table = table; body = body; asked = asked }

abbrev pub asked_by : Caller → ℕ → Asked
asked_by caller room = record { caller = caller; room = room }

abbrev pub live : Call → List Pool
live c = live_of c.book c.table

abbrev pub trades : Call → List Trade
trades c = trades_of c.book.values

-- ---- 42 to 44: the operator
-- 42: a book or table that cannot have come about by the calls
abbrev pub unsound : Book → Held → List ℕ → Bool
unsound b h body = not (holds_sound b h)

-- 43: no message ID is left, or fewer than two outbound numbers
abbrev pub numbers_spent : Values → List ℕ → Bool
numbers_spent v body = leb eleven_digits_max v.last_message_id || outbound_spent v.connection.outbound

-- the room that a TX and an AA take
abbrev pub room_least : ℕ
room_least = tx_length + aa_length

-- 44: an output with less room than that
abbrev pub output_short : Asked → Bool
output_short asked = ltb asked.room room_least

-- ---- 10 to 25: the line and the sender's system
-- not digits, or a number that fails a test
abbrev pub not_number : (ℕ → Bool) → Option ℕ → Bool
not_number p f = not (holds p f)

-- 10: a body that is not a header and 1 to 250 whole details
abbrev pub length_wrong : List ℕ → Bool
length_wrong body = not (length_fits body)

-- not digits, or a number that the line refuses
abbrev pub is_no_sequence : Option ℕ → Bool
is_no_sequence f = not (is_some f) || is_refused (unwrap_or f 0)

-- 11: a sequence that is no number, or one that the line never takes
abbrev pub sequence_fails : List ℕ → Bool
sequence_fails body = is_no_sequence (number_in body columns.sequence)

abbrev pub arrived : List ℕ → Inbound
arrived body = inbound (unwrap_or (number_in body columns.sequence) 0)

abbrev pub is_duplicate : Arrival → Bool
is_duplicate Refused = false
is_duplicate Duplicate = true
is_duplicate Expected = false
is_duplicate Gap = false

-- 12: the number that came last comes again
abbrev pub sequence_repeats : Line → List ℕ → Bool
sequence_repeats line body = is_duplicate (arrival_of line (arrived body))

-- 13: none of the four types
abbrev pub type_unknown : List ℕ → Bool
type_unknown body = is_other (type_of body)

-- 14: another version than ours
abbrev pub version_wrong : List ℕ → Bool
version_wrong body = not (same (bytes_in body columns.version) version)

-- the three fillers are blank, and Pos Dup is "X" or blank
abbrev pub blank_in : List ℕ → Column → Bool
blank_in body c = all_blank body c.at c.width

abbrev pub possibly_duplicate : List ℕ
possibly_duplicate = 88 ∷ []

abbrev pub pos_dup_fine : List ℕ → Bool
pos_dup_fine s = same s possibly_duplicate || same s (blanks (columns.pos_dup).width)

abbrev pub fillers_fine : List ℕ → Bool
fillers_fine body = (blank_in body columns.filler_one && (blank_in body columns.filler_two && blank_in body columns.filler_three)) && pos_dup_fine (bytes_in body columns.pos_dup)

-- 15: something in a filler, or another character in Pos Dup
abbrev pub fillers_fail : List ℕ → Bool
fillers_fail body = not (fillers_fine body)

-- par and price are above 0, GDMM is at most the ceiling
abbrev pub at_most : ℕ → ℕ → Bool
at_most most n = leb n most

abbrev pub amounts_wrong : ℕ → List ℕ → Bool
amounts_wrong ceiling body =
    not_number (leb 1) (number_in body columns.par)
    || (not_number (leb 1) (number_in body columns.price) || not_number (at_most ceiling) (number_in body columns.gdmm))

-- 16: par or price is no number above 0, or GDMM no number up to the ceiling
abbrev pub amounts_fail : Values → List ℕ → Bool
amounts_fail v body = amounts_wrong v.lent.limits.ceiling body

-- the book's subscriber and connection, a submitter that is seller or buyer of some trade, and one of the two contras
abbrev pub is_side : List ℕ → Trade → Bool
is_side body t = same (bytes_in body columns.submitter) t.seller || same (bytes_in body columns.submitter) t.buyer

abbrev pub parties_fine : Values → List ℕ → Bool
parties_fine v body =
    same (bytes_in body columns.subscriber) v.lent.subscriber
    && (same (bytes_in body columns.connection) v.connection.id
    && (any (is_side body) (trades_of v)
    && (same (bytes_in body columns.contra) ftba || same (bytes_in body columns.contra) fsti)))

-- 17: a party that the book does not know
abbrev pub parties_fail : Values → List ℕ → Bool
parties_fail v body = not (parties_fine v body)

-- 18: every CX fails
abbrev pub always : List ℕ → Bool
always body = true

-- 19: terminators that make no whole lots
abbrev pub lot_form_fails : List ℕ → Bool
lot_form_fails body = not (formed_for (is_cc (type_of body)) (details body))

-- 20: lots that make no groups
abbrev pub groups_fail : List ℕ → Bool
groups_fail body = not (groups_formed (details body))

-- 21: a group whose two runs differ in millions
abbrev pub sums_fail : List ℕ → Bool
sums_fail body = not (groups_balanced (details body))

-- 22: another number of pools than there are replacements
abbrev pub replacements_fail : List ℕ → Bool
replacements_fail body = not_number (eqb (replacement_count (details body))) (number_in body columns.number_of_pools)

-- 23: a settlement on no business date
abbrev pub is_business_date : List ℕ → ℕ → Bool
is_business_date holidays n = business_date n holidays

abbrev pub settlement_fails : Values → List ℕ → Bool
settlement_fails v body = not_number (is_business_date (holidays_of v)) (number_in body columns.settlement)

-- 24: a reason that is no number above 0
abbrev pub reason_fails : List ℕ → Bool
reason_fails body = not_number (leb 1) (number_in body columns.reason)

-- a trade ID whose form is whole
abbrev pub is_whole : TradeId → Bool
is_whole (Whole place n) = true
is_whole Broken = false
is_whole Absent = false

-- 25: a stipulated DK that names no trade
abbrev pub trade_id_missing : List ℕ → Bool
trade_id_missing body = is_stipulated body && not (is_whole (id_in body))

-- ---- 30 to 40: the trader
-- 30: nothing lives under the target
abbrev pub target_gone : Values → List Pool → List ℕ → Bool
target_gone v rs body = not (any (under (target_of body)) rs)

-- the trade of the target's live pools
abbrev pub first_under : List Pool → ℕ
first_under [] = 0
first_under (r ∷ rs) = r.trade

unfoldable pub target_trade : List ℕ → List Pool → ℕ
target_trade body rs = first_under (keep (under (target_of body)) rs)

-- a trade by its index; the one past the end is empty
abbrev pub no_trade : Trade
no_trade = record { id = []; length = 0; seller = []; buyer = []; contra = []; cusip = []; settlement = 0; price = 0; par = 0; open_par = 0 }

abbrev pub trade_at : List Trade → ℕ → Trade
trade_at ts i = get_or ts i no_trade

-- the trade that a whole ID names, by index
abbrev pub named_trade : List ℕ → List Trade → ℕ
named_trade body ts = first_trade (λ (t : Trade) (left : ℕ). is_named_by body (id_in body) t) 0 ts (open_pars ts)

-- the trade of a message's new lots: where an ON goes, the target's of a CC
abbrev pub trade_due : List ℕ → List Trade → List Pool → ℕ
trade_due body ts rs = cond (is_on (type_of body)) (trade_of_on body ts (open_pars ts)) (target_trade body rs)

-- the new lots with their trades: an ON's all go to one, and a target's lots share one
unfoldable pub dues_by : List ℕ → List Trade → List Pool → List Due
dues_by body ts rs = map (due (trade_due body ts rs)) (brought body)

abbrev pub dues : Call → List Due
dues c = dues_by c.body (trades c) (live c)

-- the named trade is one whose terms agree and, on a CC or DK, the target's
abbrev pub named_fine : List ℕ → List Trade → ℕ → ℕ → Bool
named_fine body ts target i = ltb i (length ts) && (agrees body (trade_at ts i) && (is_on (type_of body) || eqb i target))

abbrev pub id_fails : List ℕ → List Trade → ℕ → TradeId → Bool
id_fails body ts target (Whole place n) = not (named_fine body ts target (named_trade body ts))
id_fails body ts target Broken = true
id_fails body ts target Absent = is_stipulated body

-- 31: a trade ID that is broken, missing where it must stand, or leads to no trade that fits
abbrev pub trade_id_fails : Values → List Pool → List ℕ → Bool
trade_id_fails v rs body = id_fails body (trades_of v) (target_trade body rs) (id_in body)

-- without a trade ID, some trade's terms agree with an ON's, and the target's with a CC's or DK's
abbrev pub terms_fail : List ℕ → List Trade → ℕ → TradeId → Bool
terms_fail body ts target (Whole place n) = false
terms_fail body ts target Broken = false
terms_fail body ts target Absent = cond (is_on (type_of body)) (not (any (agrees body) ts)) (not (agrees body (trade_at ts target)))

-- 32: without a trade ID, terms that lead to no trade that fits
abbrev pub terms_differ : Values → List Pool → List ℕ → Bool
terms_differ v rs body = terms_fail body (trades_of v) (target_trade body rs) (id_in body)

-- 33: GDMM differs from the millions of the good lots
abbrev pub millions_fail : List ℕ → Bool
millions_fail body = not_number (eqb (good_millions (details body))) (number_in body columns.gdmm)

-- 34: a new pool's faces
abbrev pub new_faces_fail : Values → List ℕ → Bool
new_faces_fail v body = faces_fail v.lent.limits.least (details body)

-- 35: a new good lot's faces or pools
abbrev pub new_lots_fail : Values → List ℕ → Bool
new_lots_fail v body = lots_fail v.lent.limits.variance v.lent.limits.pools_a_million (details body)

-- 36: a new pool that the message brings twice
abbrev pub new_pools_repeat : List ℕ → Bool
new_pools_repeat body = not (distinct (map fields_of (new_pools (details body))))

-- a live record that a message takes off: under its target, with matched fields that it lists
abbrev pub is_taken : Option ℕ → List Fields → Pool → Bool
is_taken tgt fs r = under tgt r && has_fields (live_fields r) fs

abbrev pub taken_by : List ℕ → List Pool → List Pool
taken_by body rs = keep (is_taken (target_of body) (listed body)) rs

abbrev pub taken : Call → List Pool
taken c = taken_by c.body (live c)

-- the target's live lots
abbrev pub target_lots : Option ℕ → List Pool → List LiveLot
target_lots tgt rs = live_lots (keep (under tgt) rs)

-- the matched fields of a live lot's pools, and of several lots'
abbrev pub live_lot_fields : LiveLot → List Fields
live_lot_fields l = map live_fields (live_pools l)

abbrev pub fields_of_live : List LiveLot → List Fields
fields_of_live [] = []
fields_of_live (l ∷ ls) = live_lot_fields l ++ fields_of_live ls

-- whether some fields are just the others, each once, in any order
abbrev pub each_once : List Fields → List Fields → Bool
each_once fs gs = distinct fs && (all (λ (f : Fields). has_fields f gs) fs && all (λ (g : Fields). has_fields g fs) gs)

-- a live lot of which some pool is listed
abbrev pub is_listed_in : List Fields → LiveLot → Bool
is_listed_in fs l = any (λ (g : Fields). has_fields g fs) (live_lot_fields l)

-- 37: of each live lot that the message touches it lists every pool, once, and it lists nothing else
abbrev pub exact_lots : Option ℕ → List Fields → List Pool → Bool
exact_lots tgt fs rs = each_once fs (fields_of_live (keep (is_listed_in fs) (target_lots tgt rs)))

-- 37 of a CC: a 6 lot is one live lot of the target, of the same kind and millions
abbrev pub lot_fields : Lot → List Fields
lot_fields l = map fields_of (pools_of l)

abbrev pub is_lot : Lot → LiveLot → Bool
is_lot l live =
    each_once (lot_fields l) (live_lot_fields live)
    && (eqb live.first.kind (kind_number (lot_kind l)) && eqb live.first.millions (lot_millions l))

abbrev pub one_lot : Option ℕ → List Pool → Lot → Bool
one_lot tgt rs l = any (is_lot l) (target_lots tgt rs)

abbrev pub canceled_lots : List Detail → List Lot
canceled_lots ds = keep lot_canceled (lots ds)

abbrev pub listed_fine : List ℕ → List Pool → Bool
listed_fine body rs =
    exact_lots (target_of body) (listed body) rs
    && (not (is_cc (type_of body)) || all (one_lot (target_of body) rs) (canceled_lots (details body)))

-- 37: a message that lists something else than whole lots
abbrev pub listed_fail : Values → List Pool → List ℕ → Bool
listed_fail v rs body = not (listed_fine body rs)

-- a trade is opened, and its open par, with what the message takes off it, holds what is due to it
abbrev pub par_holds : List Trade → List Pool → List Due → ℕ → Bool
par_holds ts off ds t = ltb t (length ts) && leb (due_weight t ds) ((trade_at ts t).open_par + trade_weight t off)

-- every trade to which a lot is due does so
abbrev pub dues_fit : List Trade → List Pool → List Due → Bool
dues_fit ts off ds = all (λ (d : Due). par_holds ts off ds d.to) ds

abbrev pub par_fine : Values → List Pool → List ℕ → Bool
par_fine v rs body = dues_fit (trades_of v) (taken_by body rs) (dues_by body (trades_of v) rs)

-- 38: open par, with what is given back, does not hold what comes
abbrev pub par_short : Values → List Pool → List ℕ → Bool
par_short v rs body = not (par_fine v rs body)

-- the live pools less those listed, plus the new ones, fit the table
abbrev pub table_fine : Book → Held → List ℕ → Bool
table_fine b h body = leb (length h.live + length (new_pools (details body))) (h.records + length (listed body))

-- 40: more pools than the table has records
abbrev pub table_full : Book → Held → List ℕ → Bool
table_full b h body = not (table_fine b h body)

-- ---- the lists
-- a test, by what it looks at: the body alone, with the values, with the inbound line; what the caller gives; the live pools too; or all that the table holds
pub data Test : Type 0 where
  of_body : (List ℕ → Bool) → Test
  of_values : (Values → List ℕ → Bool) → Test
  of_line : (Line → List ℕ → Bool) → Test
  of_asked : (Asked → Bool) → Test
  of_live : (Values → List Pool → List ℕ → Bool) → Test
  of_table : (Book → Held → List ℕ → Bool) → Test

abbrev pub fails : Test → Call → Bool
fails (of_body p) c = p c.body
fails (of_values p) c = p c.book.values c.body
fails (of_line p) c = p c.book.values.connection.line c.body
fails (of_asked p) c = p c.asked
fails (of_live p) c = p c.book.values (live c) c.body
fails (of_table p) c = p c.book (held_in c.book c.table) c.body

-- a check: a key of its own, why it refuses, the types that it is for, and its test
pub record Check : Type 0 where
  pub key : ℕ
  pub reason : Reason
  pub types : MessageType → Bool
  pub test : Test

-- one whose key is its number
abbrev pub check : ℕ → (ℕ → Bool → Reason) → Bool → (MessageType → Bool) → Test → Check
check n causer quiet types test = record { key = n; reason = causer n quiet; types = types; test = test }

abbrev pub every : MessageType → Bool
every t = true

-- the book itself
unfoldable pub soundness_checks : List Check
soundness_checks =
    check 42 by.Operator silent every (of_table unsound)
    ∷ []

-- the operator's others, the line, and the sender's system
unfoldable pub sender_checks : List Check
sender_checks =
    check 43 by.Operator silent every (of_values numbers_spent)
    ∷ check 44 by.Operator silent every (of_asked output_short)
    ∷ check 10 by.Line silent every (of_body length_wrong)
    ∷ check 11 by.Line silent every (of_body sequence_fails)
    ∷ check 12 by.Line told every (of_line sequence_repeats)
    ∷ check 13 by.Sender told every (of_body type_unknown)
    ∷ check 14 by.Sender told every (of_body version_wrong)
    ∷ check 15 by.Sender told every (of_body fillers_fail)
    ∷ check 16 by.Sender told every (of_values amounts_fail)
    ∷ check 17 by.Sender told every (of_values parties_fail)
    ∷ check 18 by.Sender told is_cx (of_body always)
    ∷ check 19 by.Sender told brings_lots (of_body lot_form_fails)
    ∷ check 20 by.Sender told is_cc (of_body groups_fail)
    ∷ check 21 by.Sender told is_cc (of_body sums_fail)
    ∷ check 22 by.Sender told is_cc (of_body replacements_fail)
    ∷ check 23 by.Sender told is_cc (of_values settlement_fails)
    ∷ check 24 by.Sender told is_dk (of_body reason_fails)
    ∷ check 25 by.Sender told is_dk (of_body trade_id_missing)
    ∷ []

-- the trader, by target, trade, terms and new pools
unfoldable pub terms_checks : List Check
terms_checks =
    check 30 by.Trader told lists_lots (of_live target_gone)
    ∷ check 31 by.Trader told every (of_live trade_id_fails)
    ∷ check 32 by.Trader told every (of_live terms_differ)
    ∷ check 33 by.Trader told is_on (of_body millions_fail)
    ∷ check 34 by.Trader told brings_lots (of_values new_faces_fail)
    ∷ check 35 by.Trader told brings_lots (of_values new_lots_fail)
    ∷ check 36 by.Trader told brings_lots (of_body new_pools_repeat)
    ∷ []

-- the trader, by what moves; the operator's table last
unfoldable pub moves_checks : List Check
moves_checks =
    check 37 by.Trader told lists_lots (of_live listed_fail)
    ∷ check 38 by.Trader told brings_lots (of_live par_short)
    ∷ check 40 by.Operator told brings_lots (of_table table_full)
    ∷ []

abbrev pub trader_checks : List Check
trader_checks = terms_checks ++ moves_checks

abbrev pub checks : List Check
checks = soundness_checks ++ (sender_checks ++ trader_checks)

-- the first check that is for the message's type and fails
abbrev pub fails_in : Check → Call → Bool
fails_in k c = k.types (type_of c.body) && fails k.test c

abbrev pub first_failing : List Check → Call → Verdict
first_failing [] c = Ok tt
first_failing (k ∷ ks) c = cond (fails_in k c) (Err k.reason) (first_failing ks c)

-- it decides; where none fails, the message gets the next ID
abbrev pub answer_to : Call → Verdict → Answer
answer_to c (Ok u) = Accepted (c.book.values.last_message_id + 1)
answer_to c (Err r) = refusal (type_of c.body) r

unfoldable pub answer_of : Call → Answer
answer_of c = answer_to c (first_failing checks c)
