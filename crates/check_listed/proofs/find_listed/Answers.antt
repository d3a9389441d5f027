-- Places that are not found, marks that are judged, and a type that takes nothing off.
use mathlib.Core.Path.{sym, ap, ◌∙◌}
use Rattle.message_type.specs.Questions.{lists_lots, is_cc}
use Rattle.check_listed.proofs.Taking.{takes_none}
use Rattle.check_listed.proofs.Fine.{takes_not_found, run_fits, cells_fit, canceled_fit, judged_takes}
use Rattle.check_listed.proofs.find_listed.Goals as goal
use Rattle.check_listed.proofs.find_listed.Goals.{then-not-cc, else-not-cc}

pub returns-then-not-lists_lots : goal.returns-then-not-lists_lots
returns-then-not-lists_lots c =
    takes_none c.args.body.now _ (ap lists_lots (sym c.message_type-t.ensures) ∙ sym c.lists_lots.ensures ∙ c.if-not-lists_lots.true)

pub find_places-requires : goal.find_places-requires
find_places-requires c = let f = run_fits c.args.body.now c.args.live.now c.requires _ c.target_run-run.ensures in (f.0, f.1)

pub returns-in_err-at : goal.returns-in_err-at
returns-in_err-at c =
    rw c.from_residual.ensures
    (takes_not_found c.args.body.now c.args.live.now c.requires (ap lists_lots (sym c.message_type-t.ensures) ∙ sym c.lists_lots.ensures
    ∙ c.if-not-lists_lots.false)
    (rw c.target_run-run.ensures at c.in_err-at.ensures))

pub mark_places-once-requires : goal.mark_places-once-requires
mark_places-once-requires c =
    cells_fit c.args.body.now c.args.live.now c.requires _ c.target_run-run.ensures c.in_ok-at.at (c.in_ok-at.ensures).placed

pub marks_even-even-requires : goal.marks_even-even-requires
marks_even-even-requires c = run_fits c.args.body.now c.args.live.now c.requires _ c.target_run-run.ensures

pub lots_alike-alike-requires : goal.lots_alike-alike-requires
lots_alike-alike-requires c =
    canceled_fit c.args.body.now c.args.live.now c.requires _ c.target_run-run.ensures c.in_ok-at.at (c.in_ok-at.ensures).placed
    (ap is_cc (sym c.message_type-t.ensures) ∙ sym c.is_cc-cc.ensures ∙ c.if-not-cc.false)

pub returns : goal.returns
returns c =
    let a = c.args in
    let listing = ap lists_lots (sym c.message_type-t.ensures) ∙ sym c.lists_lots.ensures ∙ c.if-not-lists_lots.false in
    let is_cc' = c.is_cc-cc.ensures ∙ ap is_cc c.message_type-t.ensures in
    rw c.then_some.ensures
    (judged_takes a.body.now a.live.now c.requires _ c.target_run-run.ensures c.in_ok-at.at c.in_ok-at.ensures listing _ is_cc'
    _ _ c.mark_places-once.ensures _ c.if-not-cc.alike c.marks_even-even.ensures
    (elim c.if-not-cc.branch [
      | then-not-cc w ↦ λ place h. rw (w.alike-is, w.if-not-cc.true)
      | else-not-cc w ↦ λ place h. rw (w.alike-is, w.if-not-cc.false) (w.lots_alike-alike.ensures place h)
    ]))
