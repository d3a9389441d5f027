-- What an AA and a TX say, lent as one list of bytes: subscriber and connection first; for an AA then internal ID, time bytes and original sequence.
use Rattle.std.specs.Prelude.{ℕ, List, cond, length, eqb}
use Rattle.lists.specs.Lists.{part, pasted}
use Rattle.sequence.specs.Sequence.{inbound, outbound, next_outbound}
use Rattle.acknowledgment.specs.declared.Acknowledged.{Acknowledged}
use Rattle.acknowledgment.specs.declared.Stamp.{Stamp}
use Rattle.acknowledgment.specs.Frames.{next_stamp, aa_bytes, tx_bytes}

-- four, four, sixteen, six and six bytes
abbrev pub aa_said : ℕ
aa_said = 36

-- four and four
abbrev pub tx_said : ℕ
tx_said = 8

-- the stamp of the last frame: its number, with the subscriber and the connection that are said
abbrev pub last_stamp : ℕ → List ℕ → Stamp
last_stamp last said = record { number = outbound last; subscriber = part said 0 4; connection = part said 4 4 }

-- what an AA acknowledges, of the bytes that are said
abbrev pub acknowledged_in : List ℕ → ℕ → ℕ → Acknowledged
acknowledged_in said message code =
    record { internal = part said 8 16; message = message; code = code; time = part said 24 6; original = part said 30 6 }

-- an output with an AA from at on; it stays where the AA does not fit or what is said has another length
unfoldable pub with_aa : List ℕ → ℕ → ℕ → List ℕ → ℕ → ℕ → List ℕ
with_aa out at last said message code =
    cond (eqb (length said) aa_said)
    (pasted out at (aa_bytes (next_stamp (last_stamp last said)) (acknowledged_in said message code)))
    out

-- an output with a TX from at on, likewise
unfoldable pub with_tx : List ℕ → ℕ → ℕ → List ℕ → ℕ → ℕ → List ℕ
with_tx out at last said expected received =
    cond (eqb (length said) tx_said)
    (pasted out at (tx_bytes (next_stamp (last_stamp last said)) (inbound expected) (inbound received)))
    out

-- the last outbound number used after either: the one stamped, or the one before where what is said has another length
unfoldable pub stamped : ℕ → List ℕ → ℕ → ℕ
stamped length_said said last = cond (eqb (length said) length_said) (next_outbound (outbound last)).0 last
