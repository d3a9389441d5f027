-- Whether an ID is repeated among the trades that are left is still the answer.
use Rattle.std.proofs.Common.{sym, arith, ◌∙◌}
use Rattle.book.specs.Checks.{no_trade}
use Rattle.check_opening.proofs.Names.{names_stop, names_more, marks_more}
use Rattle.check_opening.proofs.names_repeat.Goals.{else-is_marked-via-then-is_marked+else-named, else-is_marked-via-else-is_marked}
use Rattle.check_opening.proofs.names_repeat.Goals as goal

pub returns-then-named : goal.returns-then-named
returns-then-named c =
    let l = c.loop-i in
    sym (names_stop c.args.trades.now l.i _ (omega arith) (sym c.named.ensures ∙ c.if-named.true)) ∙ l.invariant

pub loop-i-preserved : goal.loop-i-preserved
loop-i-preserved c =
    let l = c.loop-i in
    let ts = c.args.trades.now in
    elim c.else-is_marked.branch [
      | else-is_marked-via-then-is_marked+else-named w ↦ sym (names_more ts l.i _ (omega arith) (sym w.named.ensures ∙ w.if-named.false)) ∙ l.invariant
      | else-is_marked-via-else-is_marked w ↦
          sym (marks_more ts l.i no_trade (omega arith) c.marks_of-marks.result c.marks_of-marks.ensures (sym c.is_marked.ensures ∙ w.if-is_marked.false)) ∙ l.invariant
    ]
