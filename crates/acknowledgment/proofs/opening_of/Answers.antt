-- The parts are written end to end and fill the opening.
use Rattle.std.proofs.Common.{refl, arith}
use Rattle.acknowledgment.specs.Frames.{sequence_width}
use Rattle.acknowledgment.proofs.Building.{first, part, digits, filled}
use Rattle.acknowledgment.proofs.opening_of.Goals as goal

pub returns : goal.returns
returns c =
    let b1 = first 1 c.put.ensures refl refl in
    let b2 = part 2 _ b1 c.put-2.ensures (omega arith) in
    let b3 = digits sequence_width c.args.stamp.number.0 b2 c.put_sequence.ensures in
    let b4 = part 3 _ b3 c.put-3.ensures refl in
    let b5 = part 4 _ b4 c.put-4.ensures (omega arith) in
    let b6 = part 4 _ b5 c.put-5.ensures (omega arith) in
    filled b6 refl
