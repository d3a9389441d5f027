-- What the bytes so far make up is their mark, and small enough that a byte more fits.
use Rattle.std.proofs.Common.{◌≡◌, take}
use Rattle.check_opening.specs.Marks.{mark_of}
use Rattle.check_opening.proofs.Marked.{Room}
use Rattle.check_opening.proofs.mark.Given as goal

abbrev pub invariant-loop-b : goal.invariant-loop-b
invariant-loop-b l = record { room : Room l.m l.b-index; marked : l.m ≡ mark_of (take l.b-index l.id) }
