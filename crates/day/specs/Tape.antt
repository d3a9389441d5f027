-- The whole frames of a tape, one after another (01, Frames), as calls.
use Rattle.std.specs.Prelude.{ℕ, ◌-◌, List, [], ◌∷◌, map}
use Rattle.lists.specs.Lists.{part}
use Rattle.framing.specs.declared.Frame.{Frame}
use Rattle.framing.specs.Following.{frames_of}
use Rattle.book.specs.declared.Caller.{Caller}
use Rattle.book.specs.Checks.{room_least, asked_by}
use Rattle.book.specs.Promise.{Put}

-- the body of a frame
abbrev pub body_at : List ℕ → Frame → List ℕ
body_at tape f = part tape f.start (f.end - f.start)

-- the bodies of all frames of a tape
unfoldable pub bodies_of : List ℕ → List (List ℕ)
bodies_of tape = map (body_at tape) (frames_of tape)

-- the program's time bytes, 000000, and its seed
abbrev pub midnight : Caller
midnight = record { time = 48 ∷ 48 ∷ 48 ∷ 48 ∷ 48 ∷ 48 ∷ []; seed = 0 }

-- a body, with those, and the room that the day lends for what goes out
abbrev pub put_of : List ℕ → Put
put_of body = record { body = body; asked = asked_by midnight room_least }

-- the calls of a tape
unfoldable pub puts_of : List ℕ → List Put
puts_of tape = map put_of (bodies_of tape)
