-- Lines by their numbers: an enum's cases in its order, counted from 0, and what a case holds, 0 where it holds nothing.
use Rattle.std.specs.Prelude.{ℕ, List, [], ◌∷◌, Option, Some, None, is_some, Bool, cond}
use Rattle.exports_numbers.specs.Bit.{bit}
use Rattle.sequence.specs.declared.Inbound.{Inbound}
use Rattle.sequence.specs.declared.Outbound.{Outbound}
use Rattle.sequence.specs.declared.Line.{Line}
use Rattle.sequence.specs.declared.Arrival.{Arrival}
use Rattle.sequence.specs.declared.Arrival.TheVariants.{Refused, Duplicate, Expected, Gap}
use Rattle.sequence.specs.Sequence.{inbound, arrival_of, line_after, sound_line, next_outbound, outbound_spent}

-- ---- a line: whether a number was received, the last one, and the one expected
abbrev pub line_of : Bool → ℕ → ℕ → Line
line_of any last expected = record { received = cond any (Some (inbound last)) None; expected = inbound expected }

-- the last number received
abbrev pub last_received : Option Inbound → ℕ
last_received None = 0
last_received (Some last) = last.0

-- the arrivals in their order
abbrev pub arrival_number : Arrival → ℕ
arrival_number Refused = 0
arrival_number Duplicate = 1
arrival_number Expected = 2
arrival_number Gap = 3

-- what a number is to a line, the line after it, and whether the line before it is sound
unfoldable pub line_numbers : Line → Inbound → List ℕ
line_numbers line number =
    arrival_number (arrival_of line number) ∷ bit (is_some (line_after line number).received) ∷ last_received (line_after line number).received
    ∷ (line_after line number).expected.0 ∷ bit (sound_line line) ∷ []

-- ---- the outbound number after the last one used, and whether fewer than two are left
unfoldable pub outbound_numbers : Outbound → List ℕ
outbound_numbers last = (next_outbound last).0 ∷ bit (outbound_spent last) ∷ []
