-- Marks: a number that an ID alone decides, so that IDs with unlike marks are unlike.
use Rattle.std.specs.Prelude.{ℕ, ◌+◌, ◌*◌, List, fold}

-- over the ten digits, so that IDs as long as each other that differ only in digits have unlike marks
abbrev pub mark_base : ℕ
mark_base = 13

-- the mark of an ID: its bytes as the digits of one number
unfoldable pub mark_of : List ℕ → ℕ
mark_of id = fold (λ m b. m * mark_base + b) 0 id
