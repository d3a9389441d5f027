-- The loop's invariant: the first k records are written.
use mathlib.Core.Path.{◌≡◌}
use lib.ListN.{take}
use Rattle.rows_bring.specs.Stored.{records_from}
use Rattle.rows_bring.proofs.put_lot.Given as goal

abbrev pub invariant-loop-k : goal.invariant-loop-k
invariant-loop-k l = take l.k l.pools ≡ records_from l.body l.lot l.first l.k
