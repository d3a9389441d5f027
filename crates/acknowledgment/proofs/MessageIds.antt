-- The message ID is eleven bytes, digits or blanks by the code.
use Rattle.std.proofs.Common.{◌≡◌, refl, ℕ, Bool, true, false, cond, length, eqb}
use Rattle.output.specs.Output.{digits_of, blanks}
use Rattle.output.proofs.Written.{digits_length}
use Rattle.acknowledgment.specs.Frames.{accepted, message_width, message_id}

pub length_message : (message code : ℕ) → length (message_id message code) ≡ message_width
unfolding message_id
length_message message code = go (eqb code accepted)
  where
    go : (b : Bool) → length (cond b (digits_of message_width message) (blanks message_width)) ≡ message_width
    go true = digits_length message_width message
    go false = refl
