-- The loop's invariant: the table with the records of the lots still to come pasted in is the answer.
use Rattle.rows_bring.proofs.Turns.{Storing}
use Rattle.rows_bring.proofs.put_lots.Given as goal

abbrev pub invariant-loop-last : goal.invariant-loop-last
invariant-loop-last l = Storing l.message l.trade l.at l.body l.initial.pools l.pools l.place l.ordinal l.first l.last
