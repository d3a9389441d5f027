-- The parts are written end to end and fill the frame.
use Rattle.std.proofs.Common.{refl, ap, ◌∙◌, arith}
use Rattle.lists.specs.Lists.{pasted}
use Rattle.acknowledgment.specs.Frames.{tx_bytes}
use Rattle.acknowledgment.proofs.Building.{first, part, filled}
use Rattle.acknowledgment.proofs.tx_frame.Goals as goal

pub returns : goal.returns
unfolding tx_bytes
returns c =
    let b1 = first 20 c.put.ensures c.opening_of.ensures (omega arith) in
    let b2 = part 2 _ b1 c.put-2.ensures refl in
    let b3 = part 130 _ b2 (c.put-3.ensures ∙ ap (pasted _ _) c.gap_text.ensures) refl in
    let b4 = part 1 _ b3 c.put-4.ensures refl in
    filled b4 refl
