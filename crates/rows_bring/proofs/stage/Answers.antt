-- One pool more in each array; at the end each is the definition's.
use Rattle.std.proofs.Common.{rules, arith, sym, ◌∙◌}
use lib.ListN.{length-set}
use Rattle.layout.specs.Details.{details}
use Rattle.terminator.specs.Lots.{current_cents}
use Rattle.rows_bring.specs.Staged.{terminator_number}
use Rattle.rows_bring.proofs.Staging.{staging_none, staging_more, staging_done, staged_is}
use Rattle.rows_bring.proofs.stage.Goals as goal

pub loop-i-init : goal.loop-i-init
loop-i-init c =
    let ds = details c.args.body.now in
    let few = rw c.pools.ensures.all at c.pools.ensures.few in
    rw (c.into_iter-i-iterator.ensures.into_iter_gives, c.enumerate-i-items.ensures.source, c.enumerate-i-items.ensures.count, c.pools.ensures.all)
    (record { few = omega (arith, few); sizes = search rules; faces = staging_none current_cents ds; terminators = staging_none terminator_number ds })

pub loop-i-preserved : goal.loop-i-preserved
loop-i-preserved c =
    let s = (c.in-Some.ensures).steps in
    let i = rw s.0.0 at c.loop-i.invariant in
    rw (s.2, s.1, c.current_cents.ensures, c.terminator_number.ensures)
    (record {
      few = omega (arith, i.few);
      sizes = (simp length-set i.sizes.0, simp length-set i.sizes.1);
      faces = staging_more current_cents _ _ _ _ (omega (arith, i.few, i.sizes)) ∙ i.faces;
      terminators = staging_more terminator_number _ _ _ _ (omega (arith, i.few, i.sizes)) ∙ i.terminators;
    })

pub returns : goal.returns
returns c =
    let i = c.loop-i.invariant in
    let end = (c.in-None.ensures).steps.0.0.0 in
    staged_is (details c.args.body.now) _ _ (sym (staging_done current_cents _ _ _ end) ∙ i.faces) (sym (staging_done terminator_number _ _ _ end) ∙ i.terminators)
