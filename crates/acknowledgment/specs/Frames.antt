-- What goes out (01, "What goes out"; layouts of 000): each frame is the list of its parts.
use Rattle.std.specs.Prelude.{ℕ, ◌-◌, List, [], ◌∷◌, ◌++◌, cond, length, eqb}
use Rattle.output.specs.Output.{digits_of, blanks}
use Rattle.sequence.specs.declared.Inbound.{Inbound}
use Rattle.sequence.specs.Sequence.{next_outbound}
use Rattle.acknowledgment.specs.declared.Stamp.{Stamp}
use Rattle.acknowledgment.specs.declared.Acknowledged.{Acknowledged}

-- lengths of the frames and of a TX's text, in bytes
abbrev pub aa_length : ℕ
aa_length = 64

abbrev pub tx_length : ℕ
tx_length = 153

abbrev pub text_length : ℕ
text_length = 130

-- widths of the numbers, in digits
abbrev pub sequence_width : ℕ
sequence_width = 6

abbrev pub message_width : ℕ
message_width = 11

abbrev pub code_width : ℕ
code_width = 4

-- the code of an accepted message
abbrev pub accepted : ℕ
accepted = 0

-- 02 starts a frame and 03 ends it
abbrev pub start : List ℕ
start = 2 ∷ []

abbrev pub end : List ℕ
end = 3 ∷ []

-- the types "AA" and "TX"
abbrev pub aa : List ℕ
aa = 65 ∷ 65 ∷ []

abbrev pub tx : List ℕ
tx = 84 ∷ 88 ∷ []

-- the version "002"
abbrev pub version : List ℕ
version = 48 ∷ 48 ∷ 50 ∷ []

-- the category "GD" of a TX
abbrev pub gd : List ℕ
gd = 71 ∷ 68 ∷ []

-- "EXPECTED SEQ # "
abbrev pub expected_words : List ℕ
expected_words = 69 ∷ 88 ∷ 80 ∷ 69 ∷ 67 ∷ 84 ∷ 69 ∷ 68 ∷ 32 ∷ 83 ∷ 69 ∷ 81 ∷ 32 ∷ 35 ∷ 32 ∷ []

-- ", RECEIVED SEQ # "
abbrev pub received_words : List ℕ
received_words = 44 ∷ 32 ∷ 82 ∷ 69 ∷ 67 ∷ 69 ∷ 73 ∷ 86 ∷ 69 ∷ 68 ∷ 32 ∷ 83 ∷ 69 ∷ 81 ∷ 32 ∷ 35 ∷ 32 ∷ []

-- a list with blanks after it, n bytes in all
abbrev pub padded : ℕ → List ℕ → List ℕ
padded n xs = xs ++ blanks (n - length xs)

-- the stamp of the next frame: our number is the next one
abbrev pub next_stamp : Stamp → Stamp
next_stamp s = record s { number = next_outbound s.number }

-- both frames begin with 02, the type, the outbound number, 002, subscriber and connection
abbrev pub opening : List ℕ → Stamp → List ℕ
opening kind s = start ++ kind ++ digits_of sequence_width s.number.0 ++ version ++ s.subscriber ++ s.connection

-- the message ID of an accepted message; it is blank if the message is refused
unfoldable pub message_id : ℕ → ℕ → List ℕ
message_id message code = cond (eqb code accepted) (digits_of message_width message) (blanks message_width)

-- an AA; internal ID, time bytes and original sequence go out as they came
unfoldable pub aa_bytes : Stamp → Acknowledged → List ℕ
aa_bytes s a =
    opening aa s ++ a.internal ++ message_id a.message a.code ++ digits_of code_width a.code ++ a.time ++ a.original ++ end

-- the text of a TX: the numbers expected and received, and blanks after them
abbrev pub text : Inbound → Inbound → List ℕ
text expected received =
    padded text_length (expected_words ++ digits_of sequence_width expected.0 ++ received_words ++ digits_of sequence_width received.0)

-- a TX, which tells of a gap
unfoldable pub tx_bytes : Stamp → Inbound → Inbound → List ℕ
tx_bytes s expected received = opening tx s ++ gd ++ text expected received ++ end
