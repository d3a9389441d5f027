-- Each test decides one fact of 42 in its order; a fact that holds is handed to the tests after it.
use Rattle.std.proofs.Common.{sym, arith, ◌∙◌, take, length-take}
use Rattle.lists.specs.Lists.{all}
use Rattle.lists.proofs.Tests.{and_left, and_right, clash}
use Rattle.book.specs.Soundness.{record_fine, in_order}
use Rattle.check_soundness.proofs.Whole.{few, short, book_fails, records_fail, others_decide}
use Rattle.check_soundness.proofs.is_sound.Goals as goal
use Rattle.check_soundness.proofs.is_sound.Goals.{then-fields_once, else-fields_once}

pub returns-then-not-book_fine : goal.returns-then-not-book_fine
returns-then-not-book_fine c = book_fails c.args.book.now c.args.pools.now (sym c.book_fine.ensures ∙ c.if-not-book_fine.true)

pub returns-then-not-records_fine : goal.returns-then-not-records_fine
returns-then-not-records_fine c =
    records_fail c.args.book.now c.args.pools.now (sym c.book_fine.ensures ∙ c.if-not-book_fine.false) (sym c.records_fine.ensures ∙ c.if-not-records_fine.true)

pub pars_fine-requires : goal.pars_fine-requires
pars_fine-requires c =
    let b = c.args.book.now in
    let t = c.args.pools.now in
    let live = take b.live t in
    let h = sym c.book_fine.ensures ∙ c.if-not-book_fine.false in
    let r = sym c.records_fine.ensures ∙ c.if-not-records_fine.false in
    (few b t h, omega (arith, short b t h, length-take b.live t), and_left (all (record_fine b.values) live) (in_order live) r, and_right (all (record_fine b.values) live) (in_order live) r)

pub returns-then-blank_from : goal.returns-then-blank_from
returns-then-blank_from c =
    others_decide c.args.book.now c.args.pools.now (sym c.book_fine.ensures ∙ c.if-not-book_fine.false) (sym c.records_fine.ensures ∙ c.if-not-records_fine.false) _
    (elim c.if-fields_once.branch [
      | then-fields_once w ↦
          let z = sym w.blank_from.ensures ∙ sym w.value-is ∙ c.if-blank_from.true in
          rw (sym c.fields_once.ensures ∙ w.if-fields_once.true, z) c.pars_fine.ensures
      | else-fields_once w ↦ clash c.if-blank_from.true (w.value-is ∙ w.if-fields_once.false)
    ])

pub returns-else-blank_from : goal.returns-else-blank_from
returns-else-blank_from c =
    others_decide c.args.book.now c.args.pools.now (sym c.book_fine.ensures ∙ c.if-not-book_fine.false) (sym c.records_fine.ensures ∙ c.if-not-records_fine.false) _
    (elim c.if-fields_once.branch [
      | then-fields_once w ↦
          let z = sym w.blank_from.ensures ∙ sym w.value-is ∙ c.if-blank_from.false in
          rw (sym c.fields_once.ensures ∙ w.if-fields_once.true, z) c.if-blank_from.false
      | else-fields_once w ↦ rw (sym c.fields_once.ensures ∙ w.if-fields_once.false) (w.value-is ∙ w.if-fields_once.false)
    ])
