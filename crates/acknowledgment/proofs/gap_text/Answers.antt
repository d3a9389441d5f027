-- Words, numbers and blanks are written end to end and fill the text.
use Rattle.std.proofs.Common.{refl}
use Rattle.acknowledgment.specs.Frames.{sequence_width}
use Rattle.acknowledgment.proofs.Building.{first, part, digits, filled}
use Rattle.acknowledgment.proofs.gap_text.Goals as goal

pub returns : goal.returns
returns c =
    let b1 = first 15 c.put.ensures refl refl in
    let b2 = digits sequence_width c.args.expected.0 b1 c.put_sequence.ensures in
    let b3 = part 17 _ b2 c.put-2.ensures refl in
    let b4 = digits sequence_width c.args.received.0 b3 c.put_sequence-2.ensures in
    let b5 = part 86 _ b4 c.put_blanks.ensures refl in
    filled b5 refl
