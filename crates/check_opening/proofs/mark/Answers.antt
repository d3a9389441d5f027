-- What the bytes so far make up is small enough that a byte more fits.
use Rattle.std.proofs.Common.{arith}
use Rattle.check_opening.proofs.Marked.{room_fits}
use Rattle.check_opening.proofs.mark.Goals as goal

pub overflow_mul-m : goal.overflow_mul-m
overflow_mul-m c = let l = c.loop-b in omega (arith, room_fits l.m l.b-index l.invariant.room (omega arith))

pub overflow_add-m : goal.overflow_add-m
overflow_add-m c = let l = c.loop-b in omega (arith, room_fits l.m l.b-index l.invariant.room (omega arith), c.type_inv.id l.b-index)
