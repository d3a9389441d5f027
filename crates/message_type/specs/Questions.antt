-- The questions that the rules ask of a message's type (01, "Who causes which number": each check only for the types named).
use Rattle.std.specs.Prelude.{Bool, true, false, ◌||◌}
use Rattle.message_type.specs.declared.MessageType.{MessageType}
use Rattle.message_type.specs.declared.MessageType.TheVariants.{On, Cc, Dk, Cx, Other}

-- an ON
abbrev pub is_on : MessageType → Bool
is_on On = true
is_on _ = false

-- a CC
abbrev pub is_cc : MessageType → Bool
is_cc Cc = true
is_cc _ = false

-- a DK
abbrev pub is_dk : MessageType → Bool
is_dk Dk = true
is_dk _ = false

-- a CX
abbrev pub is_cx : MessageType → Bool
is_cx Cx = true
is_cx _ = false

-- none of the four
abbrev pub is_other : MessageType → Bool
is_other Other = true
is_other _ = false

-- an ON and a CC bring new lots
abbrev pub brings_lots : MessageType → Bool
brings_lots t = is_on t || is_cc t

-- a CC and a DK list live lots under a target
abbrev pub lists_lots : MessageType → Bool
lists_lots t = is_cc t || is_dk t

-- of these a DK lists all its pools, a CC the canceled ones
abbrev pub lists_all : MessageType → Bool
lists_all t = is_dk t

-- the buyer of a trade submits a DK, the seller every other
abbrev pub buyer_submits : MessageType → Bool
buyer_submits t = is_dk t

-- a trader's number on a DK is rejected, where it DKs every other
abbrev pub answers_as_dk : MessageType → Bool
answers_as_dk t = is_dk t
