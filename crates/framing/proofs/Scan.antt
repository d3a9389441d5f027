-- The finder's loop: what is left of the tape still gives the answer, read inside the frame that the last 02 started, or outside where there is none yet.
use Rattle.std.proofs.Common.{ℕ, ◌+◌, Option, Some, None, List}
use Rattle.framing.specs.declared.Frame.{Frame}
use Rattle.framing.specs.Framing.{inside, outside}

-- what the bytes at place i give, where the 02 of a started frame stands at a mark, or where none is started
abbrev pub from : Option ℕ → ℕ → List ℕ → Option Frame
from (Some mark) i bs = inside (mark + 1) i bs
from None i bs = outside i bs
