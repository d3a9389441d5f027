-- How large a pool's face in cents can be.
use Prim.Native.Nat.{◌<◌}
use Rattle.fields.proofs.Bounds.{read_below}
use Rattle.layout.specs.declared.Detail.{Detail}
use Rattle.terminator.specs.Lots.{current_cents}

-- a face has eleven digits
pub cents_small : (d : Detail) → current_cents d < 100000000000
unfolding current_cents
cents_small d = read_below d.current 0 11
