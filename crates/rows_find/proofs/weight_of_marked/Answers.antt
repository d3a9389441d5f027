-- A marked record adds its share; another adds nothing; where either list is at its end nothing is left.
use Rattle.std.proofs.Common.{arith, inl, inr}
use Rattle.rows_find.proofs.Weighing.{weighed_more, weighed_skip, weighed_done}
use Rattle.rows_find.proofs.weight_of_marked.Goals as goal

pub loop-record-preserved-then-mark-ne0 : goal.loop-record-preserved-then-mark-ne0
loop-record-preserved-then-mark-ne0 c =
    let s = (c.in-Some.ensures).steps in
    weighed_more _ _ _ _ _ _ _ _ _ (rw (s.0, s.1) at c.loop-record.invariant) c.if-mark-ne0.true _ c.weight_share-sum.ensures.0 c.weight_share-sum.ensures.1

pub loop-record-preserved : goal.loop-record-preserved
loop-record-preserved c =
    let s = (c.in-Some.ensures).steps in
    weighed_skip _ _ _ _ _ _ _ _ _ (rw (s.0, s.1) at c.loop-record.invariant) c.if-mark-ne0.false

pub returns : goal.returns
returns c =
    let w = c.loop-record.invariant in
    weighed_done _ _ _ _ _ _ _ w (elim (c.in-None.ensures).steps [
      | inl s ↦ s.1.0
      | inr s ↦ omega (arith, s.1.0, w.left.marks)
    ])
