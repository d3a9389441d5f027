-- A short day, computed: an ON, a CC and a DK are accepted one after another, and open pars and standing millions after each are those of the paper.
use Prim.Native.Nat.{ℕ, ◌+◌}
use mathlib.Core.Path.{◌≡◌, refl}
use mathlib.Core.List.{List, [], ◌∷◌, ◌++◌, map}
use mathlib.Core.Bool.{true, false}
use lib.ListN.{replicate}
use Rattle.layout.specs.declared.Column.{Column}
use Rattle.layout.specs.Columns as columns
use Rattle.lists.specs.Lists.{within, part, pasted}
use Rattle.fields.specs.Fields.{read_number, all_between}
use Rattle.output.specs.Output.{digits_of, blanks}
use Rattle.layout.specs.Details.{length_fits, place_of, pool_count, detail_at, details}
use Rattle.terminator.specs.Terminators.{positions, terminator_of}
use Rattle.terminator.specs.Lots.{lots, current_cents, lot_weight, good_millions, formed_for, replacement_count}
use Rattle.terminator.specs.Groups.{groups, groups_formed, groups_balanced}
use Rattle.faces.specs.Faces.{face_fails, faces_fail, good_lot_fails, lot_fails, lots_fail}
use Rattle.calendar.specs.Calendar.{day_number, weekday_of, is_date, business_date}
use Rattle.sequence.specs.Sequence.{arrival_of, line_after, sound_line, next_outbound}
use Rattle.trade_id.specs.SpecialInstructions.{mark, begins_with_mark, mark_in, id_at, trade_id_of}
use Rattle.book.specs.declared.Answer.{Answer}
use Rattle.book.specs.declared.Answer.TheVariants.{Accepted, Rejected, Dked}
use Rattle.book.specs.declared.Reason.TheVariants as by
use Rattle.book.specs.Reasons.{silent, told, number_of, opening_refused}
use Rattle.book.specs.Dues.{due_weight}
use Rattle.book.specs.Records.{trade_weight, standing_millions, no_pool}
use Rattle.book.specs.Messages.{type_of, fsti, listed, brought}
use Rattle.book.specs.Trades.{trades_of, open_pars, agrees, brought_weight, trade_of_on}
use Rattle.book.specs.Opening.{values_fine, opening_fine, opened, cleared}
use Rattle.book.specs.Soundness.{live_of, is_sound}
use Rattle.book.specs.Checks.{asked_by, target_trade, dues_by, soundness_checks, sender_checks, terms_checks, moves_checks, answer_of}
use Rattle.book.specs.Step.{trades_moved, live_moved, table_moved, book_after, table_after}
use Rattle.book.specs.History.{Brought, History, at_opening, standing_weight, feed, history}
use Rattle.book.specs.Promise.{State, Put, call_of, after, fed, opened_state}
use Rattle.book.specs.Samples.{seller, buyer, on, correction, dk, joined, header, detail, dealt, trade, lending, values, table, midnight, put}

-- ---- bodies
-- a body with other bytes in a column, and with another field of the detail of an index
abbrev pub altered : Column → List ℕ → List ℕ → List ℕ
altered c bytes body = pasted body c.at bytes

abbrev pub altered_pool : ℕ → Column → List ℕ → List ℕ → List ℕ
altered_pool i c bytes body = pasted body (place_of i + c.at) bytes

-- an ON of a good lot of two millions, an odd lot and a bad one
unfoldable pub on_body : List ℕ
on_body =
    header (record { type = on; sequence = 1; submitter = seller; gdmm = 2; reason = 0; target = 0; pools = 0 })
    ++ joined (detail 1 1000000 100000000 0 ∷ detail 2 1000000 100000000 2 ∷ detail 3 200000 12345600 999 ∷ detail 4 600000 50000000 889 ∷ [])

-- a CC of its good lot, for two of a million, and of its odd lot; the good lot's pools stand in another order
unfoldable pub cc_body : List ℕ
cc_body =
    header (record { type = correction; sequence = 2; submitter = seller; gdmm = 0; reason = 0; target = 1; pools = 3 })
    ++ joined
    (detail 2 1000000 100000000 6000 ∷ detail 1 1000000 100000000 6002 ∷ detail 11 1000000 100000000 7001 ∷ detail 12 1000000 100000000 7001
    ∷ detail 3 200000 12345600 6999 ∷ detail 13 300000 20000000 7999 ∷ [])

-- a DK of one of the lots that the CC brought, after a gap
unfoldable pub dk_body : List ℕ
dk_body = header (record { type = dk; sequence = 5; submitter = buyer; gdmm = 0; reason = 1; target = 2; pools = 0 }) ++ detail 12 1000000 0 0

unfoldable pub start : State
start = opened_state (values 0) table

pub opening_passes : opening_fine (values 0) table ≡ true
unfolding opening_fine values_fine values table trade all_between within part business_date is_date weekday_of day_number
opening_passes = refl

-- 41: a trade whose seller is its buyer, one that settles on a Saturday, two of one ID, and a last message ID of twelve digits
pub opening_refused_law : opening_fine (lending (trade 1 200000000 ∷ dealt buyer 7142026 2 500000000 ∷ []) 0) table
    ∷ opening_fine (lending (trade 1 200000000 ∷ dealt seller 7042026 2 500000000 ∷ []) 0) table
    ∷ opening_fine (lending (trade 1 200000000 ∷ trade 1 500000000 ∷ []) 0) table
    ∷ opening_fine (values 100000000000) table
    ∷ []
    ≡ false ∷ false ∷ false ∷ false ∷ []
unfolding opening_fine values_fine values table trade all_between within part business_date is_date weekday_of day_number
opening_refused_law = refl

pub refused_with_law : number_of opening_refused ≡ 41
refused_with_law = refl

-- ---- the day: the answer to each message, and the open pars and standing millions of both trades after it
pub record Told : Type 0 where
  pub answer : Answer
  pub pars : List ℕ
  pub millions : List ℕ

unfoldable pub reported : State → List Put → List Told
reported s [] = []
reported s (p ∷ ps) =
    record {
      answer = answer_of (call_of s p);
      pars = open_pars (trades_of (after s p).book.values);
      millions = map (λ (t : ℕ). standing_millions t (live_of (after s p).book (after s p).table)) (0 ∷ 1 ∷ []);
    } ∷ reported (after s p) ps

unfoldable pub tells : Answer → ℕ → ℕ → Told
tells a left millions = record { answer = a; pars = 200000000 ∷ left ∷ []; millions = 0 ∷ millions ∷ [] }

pub day : reported start (put on_body ∷ put cc_body ∷ put dk_body ∷ put (altered columns.sequence (digits_of 6 6) dk_body) ∷ [])
    ≡ tells (Accepted 1) 237654400 2 ∷ tells (Accepted 2) 230000000 2 ∷ tells (Accepted 3) 330000000 1 ∷ tells (Rejected (by.Trader 37 told)) 330000000 1 ∷ []
unfolding answer_of soundness_checks sender_checks terms_checks moves_checks is_sound values_fine opened cleared values table trade put on_body header detail all_between within part read_number business_date is_date weekday_of day_number sound_line length_fits pool_count detail_at details arrival_of type_of mark_in begins_with_mark id_at trade_id_of terminator_of positions lots formed_for current_cents lot_weight good_millions face_fails faces_fail good_lot_fails lot_fails lots_fail listed brought agrees brought_weight trade_of_on dues_by due_weight target_trade trade_weight reported tells start cc_body dk_body pasted after book_after table_after trades_moved live_moved table_moved line_after next_outbound standing_millions groups groups_formed groups_balanced replacement_count
day = refl

-- what the history remembers of it: how often each lot was taken off, how often by a DK, and its trade
unfoldable pub day_history : History
day_history = history (values 0) (at_opening (values 0)) (fed start (put on_body ∷ put cc_body ∷ put dk_body ∷ []))

pub remembered : map (λ (h : Brought). h.offs ∷ h.dks ∷ h.trade ∷ []) day_history.lots
    ≡ (1 ∷ 0 ∷ 1 ∷ []) ∷ (1 ∷ 0 ∷ 1 ∷ []) ∷ (0 ∷ 0 ∷ 1 ∷ []) ∷ (0 ∷ 0 ∷ 1 ∷ []) ∷ (1 ∷ 1 ∷ 1 ∷ []) ∷ (0 ∷ 0 ∷ 1 ∷ []) ∷ []
unfolding answer_of soundness_checks sender_checks terms_checks moves_checks is_sound values_fine opened cleared values table trade put on_body header detail all_between within part read_number business_date is_date weekday_of day_number sound_line length_fits pool_count detail_at details arrival_of type_of mark_in begins_with_mark id_at trade_id_of terminator_of positions lots formed_for current_cents lot_weight good_millions face_fails faces_fail good_lot_fails lot_fails lots_fail listed brought agrees brought_weight trade_of_on dues_by due_weight target_trade trade_weight reported tells start cc_body dk_body pasted after book_after table_after trades_moved live_moved table_moved line_after next_outbound standing_millions groups groups_formed groups_balanced replacement_count day_history history fed feed standing_weight
remembered = refl

-- ---- refusals: a call for each number of a frame, 42 to 44 and 10 to 40; every other check before it passes
-- the state after the ON
unfoldable pub second : State
second = after start (put on_body)

-- a DK of the ON's odd lot
unfoldable pub dk_odd : List ℕ
dk_odd = altered columns.sequence (digits_of 6 2) (altered columns.target (digits_of 11 1) (altered_pool 0 columns.pool_number (digits_of 7 3) (altered_pool 0 columns.original_face (digits_of 9 200000) dk_body)))

abbrev pub answered : State → List ℕ → Answer
answered s body = answer_of (call_of s (put body))

-- by the operator
pub by_operator : answer_of (call_of (record { book = record { values = start.book.values; live = 9 }; table = table }) (put on_body))
    ∷ answered (opened_state (values 99999999999) table) on_body
    ∷ answer_of (call_of start (record { body = on_body; asked = asked_by midnight 216 }))
    ∷ answered (opened_state (values 0) (replicate 3 no_pool)) on_body
    ∷ []
    ≡ Rejected (by.Operator 42 silent) ∷ Rejected (by.Operator 43 silent) ∷ Rejected (by.Operator 44 silent) ∷ Rejected (by.Operator 40 told) ∷ []
unfolding answer_of soundness_checks sender_checks terms_checks moves_checks is_sound values_fine opened cleared values table trade put on_body header detail all_between within part read_number business_date is_date weekday_of day_number sound_line length_fits pool_count detail_at details arrival_of type_of mark_in begins_with_mark id_at trade_id_of terminator_of positions lots formed_for current_cents lot_weight good_millions face_fails faces_fail good_lot_fails lot_fails lots_fail listed brought agrees brought_weight trade_of_on dues_by due_weight target_trade trade_weight reported tells start cc_body dk_body pasted after book_after table_after trades_moved live_moved table_moved line_after next_outbound standing_millions groups groups_formed groups_balanced replacement_count second dk_odd
by_operator = refl

-- by the line, and by the sender's system; a CC that fails 20 and 21 gets 20
pub by_sender : answered start []
    ∷ answered start (altered columns.sequence (digits_of 6 999999) on_body)
    ∷ answered second on_body
    ∷ answered start (altered columns.message_type (88 ∷ 88 ∷ []) on_body)
    ∷ answered start (altered columns.version (digits_of 3 3) on_body)
    ∷ answered start (altered columns.filler_one (48 ∷ []) on_body)
    ∷ answered start (altered columns.par (digits_of 11 0) on_body)
    ∷ answered start (altered columns.submitter (blanks 4) on_body)
    ∷ answered start (altered columns.message_type (67 ∷ 88 ∷ []) on_body)
    ∷ answered start (altered_pool 2 columns.terminator (digits_of 4 100) on_body)
    ∷ answered second (altered_pool 5 columns.terminator (digits_of 4 6999) cc_body)
    ∷ answered second (altered_pool 3 columns.terminator (digits_of 4 7002) cc_body)
    ∷ answered second (altered_pool 5 columns.terminator (digits_of 4 7002) cc_body)
    ∷ answered second (altered columns.number_of_pools (digits_of 4 2) cc_body)
    ∷ answered second (altered columns.settlement (digits_of 8 7042026) cc_body)
    ∷ answered second (altered columns.reason (digits_of 4 0) dk_odd)
    ∷ answered second (altered columns.contra fsti dk_odd)
    ∷ []
    ≡ Rejected (by.Line 10 silent) ∷ Rejected (by.Line 11 silent) ∷ Rejected (by.Line 12 told) ∷ Rejected (by.Sender 13 told) ∷ Rejected (by.Sender 14 told) ∷ Rejected (by.Sender 15 told)
    ∷ Rejected (by.Sender 16 told) ∷ Rejected (by.Sender 17 told) ∷ Rejected (by.Sender 18 told) ∷ Rejected (by.Sender 19 told) ∷ Rejected (by.Sender 20 told) ∷ Rejected (by.Sender 21 told)
    ∷ Rejected (by.Sender 20 told) ∷ Rejected (by.Sender 22 told) ∷ Rejected (by.Sender 23 told) ∷ Rejected (by.Sender 24 told) ∷ Rejected (by.Sender 25 told) ∷ []
unfolding answer_of soundness_checks sender_checks terms_checks moves_checks is_sound values_fine opened cleared values table trade put on_body header detail all_between within part read_number business_date is_date weekday_of day_number sound_line length_fits pool_count detail_at details arrival_of type_of mark_in begins_with_mark id_at trade_id_of terminator_of positions lots formed_for current_cents lot_weight good_millions face_fails faces_fail good_lot_fails lot_fails lots_fail listed brought agrees brought_weight trade_of_on dues_by due_weight target_trade trade_weight reported tells start cc_body dk_body pasted after book_after table_after trades_moved live_moved table_moved line_after next_outbound standing_millions groups groups_formed groups_balanced replacement_count second dk_odd
by_sender = refl

-- by the trader; the DK of the odd lot itself is accepted
pub by_trader : answered second (altered columns.target (digits_of 11 9) cc_body)
    ∷ answered start (altered columns.special mark on_body)
    ∷ answered start (altered columns.cusip (digits_of 9 0) on_body)
    ∷ answered start (altered columns.gdmm (digits_of 4 3) on_body)
    ∷ answered start (altered_pool 2 columns.original_face (digits_of 9 999) on_body)
    ∷ answered start (altered_pool 1 columns.current_face (digits_of 11 100020001) on_body)
    ∷ answered start (altered_pool 1 columns.pool_number (digits_of 7 1) on_body)
    ∷ answered second (altered_pool 0 columns.pool_number (digits_of 7 4) cc_body)
    ∷ answered start (altered_pool 2 columns.current_face (digits_of 11 250000001) on_body)
    ∷ answered second (altered columns.target (digits_of 11 9) dk_odd)
    ∷ answered second dk_odd
    ∷ []
    ≡ Dked (by.Trader 30 told) ∷ Dked (by.Trader 31 told) ∷ Dked (by.Trader 32 told) ∷ Dked (by.Trader 33 told) ∷ Dked (by.Trader 34 told) ∷ Dked (by.Trader 35 told) ∷ Dked (by.Trader 36 told)
    ∷ Dked (by.Trader 37 told) ∷ Dked (by.Trader 38 told) ∷ Rejected (by.Trader 30 told) ∷ Accepted 2 ∷ []
unfolding answer_of soundness_checks sender_checks terms_checks moves_checks is_sound values_fine opened cleared values table trade put on_body header detail all_between within part read_number business_date is_date weekday_of day_number sound_line length_fits pool_count detail_at details arrival_of type_of mark_in begins_with_mark id_at trade_id_of terminator_of positions lots formed_for current_cents lot_weight good_millions face_fails faces_fail good_lot_fails lot_fails lots_fail listed brought agrees brought_weight trade_of_on dues_by due_weight target_trade trade_weight reported tells start cc_body dk_body pasted after book_after table_after trades_moved live_moved table_moved line_after next_outbound standing_millions groups groups_formed groups_balanced replacement_count second dk_odd
by_trader = refl

-- 37 on a DK: a pool listed twice, a part of a lot, and a pool that nobody brought
pub dk_listed : answered second (dk_odd ++ detail 3 200000 0 0)
    ∷ answered second (altered_pool 0 columns.pool_number (digits_of 7 1) (altered_pool 0 columns.original_face (digits_of 9 1000000) dk_odd))
    ∷ answered second (altered_pool 0 columns.pool_number (digits_of 7 9) dk_odd)
    ∷ []
    ≡ Rejected (by.Trader 37 told) ∷ Rejected (by.Trader 37 told) ∷ Rejected (by.Trader 37 told) ∷ []
unfolding answer_of soundness_checks sender_checks terms_checks moves_checks is_sound values_fine opened cleared values table trade put on_body header detail all_between within part read_number business_date is_date weekday_of day_number sound_line length_fits pool_count detail_at details arrival_of type_of mark_in begins_with_mark id_at trade_id_of terminator_of positions lots formed_for current_cents lot_weight good_millions face_fails faces_fail good_lot_fails lot_fails lots_fail listed brought agrees brought_weight trade_of_on dues_by due_weight target_trade trade_weight reported tells start cc_body dk_body pasted after book_after table_after trades_moved live_moved table_moved line_after next_outbound standing_millions groups groups_formed groups_balanced replacement_count second dk_odd
dk_listed = refl

-- 37 on a CC: a 6 lot of other millions than the live lot, and two 6 lots that are each a part of one
unfoldable pub cc_other : List ℕ
cc_other = altered_pool 1 columns.terminator (digits_of 4 6003) (altered_pool 3 columns.terminator (digits_of 4 7002) (altered_pool 3 columns.current_face (digits_of 11 200000000) cc_body))

unfoldable pub cc_parts : List ℕ
cc_parts =
    altered_pool 0 columns.terminator (digits_of 4 6002)
    (altered_pool 3 columns.terminator (digits_of 4 7003) (altered_pool 3 columns.current_face (digits_of 11 300000000) cc_body))

pub cc_listed : answered second cc_other ∷ answered second cc_parts ∷ [] ≡ Dked (by.Trader 37 told) ∷ Dked (by.Trader 37 told) ∷ []
unfolding answer_of soundness_checks sender_checks terms_checks moves_checks is_sound values_fine opened cleared values table trade put on_body header detail all_between within part read_number business_date is_date weekday_of day_number sound_line length_fits pool_count detail_at details arrival_of type_of mark_in begins_with_mark id_at trade_id_of terminator_of positions lots formed_for current_cents lot_weight good_millions face_fails faces_fail good_lot_fails lot_fails lots_fail listed brought agrees brought_weight trade_of_on dues_by due_weight target_trade trade_weight reported tells start cc_body dk_body pasted after book_after table_after trades_moved live_moved table_moved line_after next_outbound standing_millions groups groups_formed groups_balanced replacement_count second dk_odd cc_other cc_parts
cc_listed = refl

-- 38 beside live pools: an ON to the second trade by its ID, of a cent more than its open par, and of just as much, which 40 then refuses
unfoldable pub on_named : ℕ → List ℕ
on_named odd =
    altered columns.sequence (digits_of 6 2)
    (altered columns.special (mark ++ (84 ∷ 50 ∷ 61 ∷ [])) (altered_pool 2 columns.current_face (digits_of 11 odd) (altered_pool 3 columns.current_face (digits_of 11 0) on_body)))

pub open_par : answered second (on_named 37654401) ∷ answered second (on_named 37654400) ∷ [] ≡ Dked (by.Trader 38 told) ∷ Rejected (by.Operator 40 told) ∷ []
unfolding answer_of soundness_checks sender_checks terms_checks moves_checks is_sound values_fine opened cleared values table trade put on_body header detail all_between within part read_number business_date is_date weekday_of day_number sound_line length_fits pool_count detail_at details arrival_of type_of mark_in begins_with_mark id_at trade_id_of terminator_of positions lots formed_for current_cents lot_weight good_millions face_fails faces_fail good_lot_fails lot_fails lots_fail listed brought agrees brought_weight trade_of_on dues_by due_weight target_trade trade_weight reported tells start cc_body dk_body pasted after book_after table_after trades_moved live_moved table_moved line_after next_outbound standing_millions groups groups_formed groups_balanced replacement_count second dk_odd on_named
open_par = refl
