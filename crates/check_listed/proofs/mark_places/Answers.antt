-- A listed pool marks its record, another none.
use Rattle.std.proofs.Common.{sym, ap, ◌∙◌, inl, inr, rules, arith, Bool, not, ◌||◌}
use Rattle.lists.specs.Lists.{fold}
use lib.ListN.{length-set}
use Rattle.check_listed.proofs.Passes.{each_cell, none_left, marking_done, number_most}
use Rattle.check_listed.proofs.mark_places.Goals as goal
use Rattle.check_listed.proofs.mark_places.Goals.{then-cc-is_canceled, else-cc-is_canceled}

pub loop-d-init : goal.loop-d-init
loop-d-init c =
    let z = c.zip-d-items.ensures in
    record {
      few = rw (c.into_iter-d-iterator.ensures.into_iter_gives, z.first) (omega (arith, c.pools.ensures.few));
      size = search rules;
      fits = rw (c.into_iter-d-iterator.ensures.into_iter_gives, z.first, z.second.0, c.pools.ensures.all) (each_cell _ _ _ c.requires);
      same = search rules;
    }

pub loop-d-preserved : goal.loop-d-preserved
loop-d-preserved c =
    let a = c.args in
    let l = c.loop-d in
    let s = (c.in-Some.ensures).steps in
    let i = rw (s.0.0, s.1) at l.invariant in
    let most = number_most a.cc l.lot c.in-Some.d in
    let listed = ap (λ (b : Bool). not a.cc || b) (sym c.is_canceled.ensures) in
    elim c.if-cc-is_canceled.branch [
      | then-cc-is_canceled w ↦
          let same = rw (listed ∙ w.if-cc-is_canceled.true, fold) at i.same in
          rw (w.marks-is, w.fine-is, c.number_after-lot.ensures)
          (record { few = omega (arith, i.few, most); size = simp length-set i.size; fits = i.fits.1; same = same })
      | else-cc-is_canceled w ↦
          let same = rw (listed ∙ w.if-cc-is_canceled.false, fold) at i.same in
          rw (w.marks-is, w.fine-is, c.number_after-lot.ensures) (record { few = omega (arith, i.few, most); size = i.size; fits = i.fits.1; same = same })
    ]

pub returns : goal.returns
returns c =
    let left = none_left _ _ (elim (c.in-None.ensures).steps [
      | inl s ↦ inl s.1.0.0
      | inr s ↦ inr s.1.0
    ]) in
    λ place h. rw left at c.loop-d.invariant.same ∙ marking_done c.args.cc place _ _ _ c.told-at h
