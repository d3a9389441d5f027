-- Every case of the table holds: one test over the whole table is computed, and one law takes each case from it.
use mathlib.Core.Path.{◌≡◌, refl}
use mathlib.Core.List.{Memᴰ}
use mathlib.Core.Bool.{true}
use Rattle.lists.specs.Lists.{within, part}
use Rattle.lists.proofs.Tests.{all_out}
use Rattle.fields.specs.Fields.{read_number, all_between}
use Rattle.layout.specs.Details.{length_fits, pool_count, detail_at, details}
use Rattle.terminator.specs.Terminators.{positions, terminator_of}
use Rattle.terminator.specs.Lots.{lots, current_cents, lot_weight, good_millions, formed_for, replacement_count}
use Rattle.terminator.specs.Groups.{groups, groups_formed, groups_balanced}
use Rattle.faces.specs.Faces.{face_fails, faces_fail, good_lot_fails, lot_fails, lots_fail}
use Rattle.calendar.specs.Calendar.{day_number, weekday_of, is_date, business_date}
use Rattle.sequence.specs.Sequence.{arrival_of, line_after, sound_line, next_outbound}
use Rattle.trade_id.specs.SpecialInstructions.{begins_with_mark, mark_in, id_at, trade_id_of}
use Rattle.book.specs.Dues.{due_weight}
use Rattle.book.specs.Records.{trade_weight}
use Rattle.book.specs.Messages.{type_of, listed, brought}
use Rattle.book.specs.Trades.{agrees, brought_weight, trade_of_on}
use Rattle.book.specs.Opening.{values_fine, opened, cleared}
use Rattle.book.specs.Soundness.{is_sound}
use Rattle.book.specs.Checks.{target_trade, dues_by, soundness_checks, sender_checks, terms_checks, moves_checks, answer_of}
use Rattle.book.specs.Step.{trades_moved, live_moved, table_moved, book_after, table_after}
use Rattle.book.specs.Promise.{after}
use Rattle.book.specs.Samples as samples
use Rattle.book.specs.Samples.{header, detail, put}
use Rattle.proof_table.specs.Table.{on_with, cc_with, on_numbered, on_of_two, start, numbers, Case, holds, table, table_holds}

computed : table_holds ≡ true
unfolding table_holds on_with cc_with on_numbered on_of_two start numbers header detail put samples.trade samples.values samples.table answer_of soundness_checks sender_checks terms_checks moves_checks is_sound values_fine opened cleared all_between within part read_number business_date is_date weekday_of day_number sound_line length_fits pool_count detail_at details arrival_of type_of mark_in begins_with_mark id_at trade_id_of terminator_of positions lots formed_for current_cents lot_weight good_millions face_fails faces_fail good_lot_fails lot_fails lots_fail listed brought agrees brought_weight trade_of_on dues_by due_weight target_trade trade_weight after book_after table_after trades_moved live_moved table_moved line_after next_outbound groups groups_formed groups_balanced replacement_count
computed = refl

pub every : (c : Case) → Memᴰ c table → holds c ≡ true
unfolding table_holds
every c m = all_out holds m computed
