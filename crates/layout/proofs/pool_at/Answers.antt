-- The pools that are counted stand in the body, and are few.
use native.Mathlib.Omega.{arith}
use Rattle.layout.proofs.Lengths.{counted, count_max}
use Rattle.layout.proofs.pool_at.Goals as goal

pub overflow_mul-i : goal.overflow_mul-i
overflow_mul-i c = omega (arith, c.requires, count_max c.args.body.now)

pub overflow_add-i : goal.overflow_add-i
overflow_add-i c = omega (arith, c.requires, count_max c.args.body.now)

pub detail_at-requires : goal.detail_at-requires
detail_at-requires c = counted _ _ c.requires
