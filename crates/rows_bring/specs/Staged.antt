-- The pools of a message before anything is stored (01, "The book"): their current faces and terminators, each in an array with zeros after the last pool.
use Rattle.std.specs.Prelude.{Option, unwrap_or}
use Rattle.std.specs.Prelude.{ℕ, ◌+◌, ◌-◌, ◌*◌, ◌/◌, ◌%◌, ◌<◌, ◌≡◌, List, ◌++◌, map, length, get_or, replicate}
use Rattle.fields.specs.Fields.{read_number}
use Rattle.layout.specs.declared.Detail.{Detail}
use Rattle.layout.specs.Details.{pools_max, pool_count, detail_at, place_of}
use Rattle.terminator.specs.declared.Terminator.{Terminator}
use Rattle.terminator.specs.Terminators.{positions, one}
use Rattle.terminator.specs.Lots.{current_cents}
use Rattle.rows_bring.specs.declared.Staged.{Staged}

-- positions two to four as a number; what is not digits is one that no three digits make, and wrong as they are
abbrev pub three_digits : Option ℕ → ℕ
three_digits f = unwrap_or f 1000

-- a terminator as one number: the code of position one, and after it the number of positions two to four
unfoldable pub terminator_number : Detail → ℕ
terminator_number d = one d * 10000 + three_digits (read_number d.terminator 1 3)

-- its position one, and what its positions two to four say
abbrev pub number_one : ℕ → ℕ
number_one n = n / 10000

abbrev pub number_term : ℕ → Terminator
number_term n = positions (n % 10000)

-- an array with a number for each pool of a message, and zeros after them
abbrev pub padded : List ℕ → List ℕ
padded xs = xs ++ replicate (pools_max - length xs) 0

-- the staged pools: current faces in cents (0 where not digits), and terminators
unfoldable pub staged : List Detail → Staged
staged ds = record { faces = padded (map current_cents ds); terminators = padded (map terminator_number ds) }

-- an array that has a number of each pool of a body
abbrev pub AreStaged : (Detail → ℕ) → List ℕ → List ℕ → Type 0
AreStaged f body xs = (i : ℕ) → i < pool_count body → get_or xs i 0 ≡ f (detail_at body (place_of i))
