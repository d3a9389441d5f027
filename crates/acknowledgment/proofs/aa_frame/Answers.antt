-- The parts are written end to end and fill the frame.
use Rattle.std.proofs.Common.{refl, arith}
use Rattle.acknowledgment.specs.Frames.{code_width, message_width, aa_bytes}
use Rattle.acknowledgment.proofs.Building.{first, part, digits, filled}
use Rattle.acknowledgment.proofs.MessageIds.{length_message}
use Rattle.acknowledgment.proofs.aa_frame.Goals as goal

pub returns : goal.returns
unfolding aa_bytes
returns c =
    let b1 = first 20 c.put.ensures c.opening_of.ensures (omega arith) in
    let b2 = part 16 _ b1 c.put-2.ensures (omega arith) in
    let b3 = part message_width _ b2 c.put_message_id.ensures (length_message _ _) in
    let b4 = digits code_width c.args.a.code b3 c.put_digits.ensures in
    let b5 = part 6 _ b4 c.put-3.ensures (omega arith) in
    let b6 = part 6 _ b5 c.put-4.ensures (omega arith) in
    let b7 = part 1 _ b6 c.put-5.ensures refl in
    filled b7 refl
