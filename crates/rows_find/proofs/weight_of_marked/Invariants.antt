-- The loop's invariant: what was weighed, with what the iterator still has, makes up the weight.
use Rattle.rows_find.proofs.Weighing.{Weighed}
use Rattle.rows_find.proofs.weight_of_marked.Given as goal

abbrev pub invariant-loop-record : goal.invariant-loop-record
invariant-loop-record l = Weighed l.live l.marks l.record-iterator.a.rest.now l.record-iterator.b.rest.now l.sum l.message l.ordinal
