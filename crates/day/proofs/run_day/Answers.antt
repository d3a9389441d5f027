-- The iterator's first frame is the one that is put to the book.
use Rattle.std.proofs.Common.{rules}
use Rattle.lists.specs.Lists.{part}
use Rattle.day.proofs.Turning.{begins, accepted_on, refused_on}
use Rattle.day.proofs.run_day.Goals as goal

pub loop-frame-init : goal.loop-frame-init
loop-frame-init c = record { same = search rules; way = begins _ _ _ _ (search rules) (search rules) }

pub loop-frame-preserved-then-is_accepted : goal.loop-frame-preserved-then-is_accepted
unfolding part
loop-frame-preserved-then-is_accepted c =
    let w = c.loop-frame.invariant.way in
    record { same = search rules; way = accepted_on _ _ _ _ _ c.in-Some.frame _ w (search rules) _ (search rules) c.step-stepped.result _ _ c.step-stepped.ensures (search rules) }

pub loop-frame-preserved : goal.loop-frame-preserved
unfolding part
loop-frame-preserved c =
    let w = c.loop-frame.invariant.way in
    record { same = search rules; way = refused_on _ _ _ _ _ c.in-Some.frame _ w (search rules) _ (search rules) c.step-stepped.result _ _ c.step-stepped.ensures (search rules) }
