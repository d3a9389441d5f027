-- A whole number of details, no more than a message may have, is their number; any other length fails check 10.
use native.Mathlib.Omega.{arith}
use borrow.Author.Tests.{tests}
use Rattle.layout.specs.Details.{length_fits, pool_count}
use Rattle.layout.proofs.pool_count.Goals as goal

pub returns-then-n-rest : goal.returns-then-n-rest
unfolding pool_count length_fits
returns-then-n-rest c = grind (arith, tests)

pub returns-else-n-le-POOLS_MAX : goal.returns-else-n-le-POOLS_MAX
unfolding pool_count length_fits
returns-else-n-le-POOLS_MAX c = grind (arith, tests)
