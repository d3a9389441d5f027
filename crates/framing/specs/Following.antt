-- The whole frames of a tape, one after another (01, Frames).
use Rattle.std.specs.Prelude.{ℕ, ◌≡◌, ◌≤◌, IfSome, zero, suc, ◌-◌, Option, Some, None, List, [], ◌∷◌, length}
use Rattle.std.specs.Iterator.{YieldsFirst}
use Rattle.framing.specs.declared.Frame.{Frame}
use Rattle.framing.specs.declared.Frames.{Frames}
use Rattle.framing.specs.Framing.{next_frame}

-- a frame, and then the frames from the place after it on; none where there is no frame
abbrev pub frame_then : (ℕ → List Frame) → Option Frame → List Frame
frame_then rest None = []
frame_then rest (Some f) = f ∷ rest f.next

-- the frames from a place on, at most n of them
abbrev pub frames_from : List ℕ → ℕ → ℕ → List Frame
frames_from tape zero at = []
frames_from tape (suc n) at = frame_then (frames_from tape n) (next_frame tape at)

-- all of them from a place on: they are fewer than the bytes from there
unfoldable pub frames_after : List ℕ → ℕ → List Frame
frames_after tape at = frames_from tape (length tape - at) at

-- the frames of a tape
abbrev pub frames_of : List ℕ → List Frame
frames_of tape = frames_after tape 0

-- the tape that the iterator reads
abbrev pub tape_of : Frames → List ℕ
tape_of s = s.tape.now

-- the frames that it has still to give
abbrev pub left : Frames → List Frame
left s = frames_after (tape_of s) s.at

-- a call gives the first of them, which lies in the tape, and leaves the others of the same tape
abbrev pub gives : Frames → Option Frame → Frames → Type 0
gives s r t = YieldsFirst left s r t × (tape_of t ≡ tape_of s) × IfSome r (λ f. (f.start ≤ f.end) × (f.end ≤ length (tape_of s)))
