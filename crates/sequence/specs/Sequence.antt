-- Sequence numbers: inbound and outbound are separate counters (01, The book; 11, 12, 42, 43).
use Rattle.std.specs.Prelude.{ℕ, ◌+◌, Option, Some, None, Bool, false, cond, ◌&&◌, eqb, leb, ltb}
use Rattle.sequence.specs.declared.Inbound.{Inbound}
use Rattle.sequence.specs.declared.Outbound.{Outbound}
use Rattle.sequence.specs.declared.Line.{Line}
use Rattle.sequence.specs.declared.Arrival.{Arrival}
use Rattle.sequence.specs.declared.Arrival.TheVariants.{Refused, Duplicate, Expected, Gap}

-- the first number that a line expects
abbrev pub first_number : ℕ
first_number = 1

-- the highest number that 11 lets through
abbrev pub inbound_max : ℕ
inbound_max = 999998

-- six digits hold no higher outbound number
abbrev pub outbound_max : ℕ
outbound_max = 999999

-- 43 refuses a last outbound number over this one
abbrev pub outbound_last_max : ℕ
outbound_last_max = 999997

-- a number of the sender's side
abbrev pub inbound : ℕ → Inbound
inbound n = record { 0 = n }

-- a number of our side
abbrev pub outbound : ℕ → Outbound
outbound n = record { 0 = n }

-- inbound starts expecting 1, none received
abbrev pub start_line : Line
start_line = record { received = None; expected = inbound first_number }

-- whether a number is the last received
abbrev pub is_last : Option Inbound → Inbound → Bool
is_last None number = false
is_last (Some last) number = eqb number.0 last.0

-- 11: the line refuses 999999, and what six digits do not hold
abbrev pub is_refused : ℕ → Bool
is_refused n = ltb inbound_max n

-- 11, then 12, then the expected one; any other is a gap
unfoldable pub arrival_of : Line → Inbound → Arrival
arrival_of line number =
    cond (is_refused number.0) Refused
    (cond (is_last line.received number) Duplicate
    (cond (eqb number.0 line.expected.0) Expected Gap))

-- the line once a number is processed: it is received, and one more is expected
abbrev pub processed : Inbound → Line
processed number = record { received = Some number; expected = inbound (number.0 + 1) }

-- a line after a number of that arrival: only the expected one and a gap are processed
abbrev pub moved : Arrival → Line → Inbound → Line
moved Refused line number = line
moved Duplicate line number = line
moved Expected line number = processed number
moved Gap line number = processed number

-- the line after a number
unfoldable pub line_after : Line → Inbound → Line
line_after line number = moved (arrival_of line number) line number

-- 42: expected is 1 where none is received
abbrev pub sound_after : Option Inbound → Inbound → Bool
sound_after None expected = eqb expected.0 first_number
sound_after (Some last) expected = leb last.0 inbound_max && eqb expected.0 (last.0 + 1)

-- 42: received is at most 999998, and expected one more
unfoldable pub sound_line : Line → Bool
sound_line line = sound_after line.received line.expected

-- the outbound number after the last one used; 999999 is the highest and stays
unfoldable pub next_outbound : Outbound → Outbound
next_outbound last = cond (ltb last.0 outbound_max) (outbound (last.0 + 1)) last

-- 43: the last outbound number is over 999997
abbrev pub outbound_spent : Outbound → Bool
outbound_spent last = ltb outbound_last_max last.0
