-- The next whole frame of a tape (01, Frames).
use Rattle.std.specs.Prelude.{ℕ, ◌+◌, ◌-◌, ◌≤◌, ◌≡◌, Option, Some, None, List, [], ◌∷◌, cond, length, drop, eqb}
use Rattle.framing.specs.declared.Frame.{Frame}
use Rattle.framing.specs.declared.Found.{Found}

-- hex 02
abbrev pub start_byte : ℕ
start_byte = 2

-- hex 03
abbrev pub end_byte : ℕ
end_byte = 3

-- the frame whose body goes from start up to the 03 at end
abbrev pub frame_of : ℕ → ℕ → Frame
frame_of start end = record { start = start; end = end; next = end + 1 }

-- in a started frame, whose body starts at start: 02 drops it and starts another, 03 ends it (the bytes stand at place p)
abbrev pub inside : ℕ → ℕ → List ℕ → Option Frame
inside start p [] = None
inside start p (b ∷ bs) =
    cond (eqb b start_byte) (inside (p + 1) (p + 1) bs) (cond (eqb b end_byte) (Some (frame_of start p)) (inside start (p + 1) bs))

-- outside a frame: 02 starts one, every other byte is dropped
abbrev pub outside : ℕ → List ℕ → Option Frame
outside p [] = None
outside p (b ∷ bs) = cond (eqb b start_byte) (inside (p + 1) (p + 1) bs) (outside (p + 1) bs)

-- the next whole frame: what the bytes from the place on give, and nothing before them
unfoldable pub next_frame : List ℕ → ℕ → Option Frame
next_frame tape at = outside at (drop at tape)

-- what the finder promises: the next frame, and a dropped count of at most the bytes from the place on (none where it is past the end)
pub record Finds (tape : List ℕ) (at : ℕ) (r : Found) : Type 0 where
  pub frame : r.frame ≡ next_frame tape at
  pub dropped : r.dropped ≤ length tape - at
