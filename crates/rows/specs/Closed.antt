-- Closing up (01, "The book"): the live records without those that are marked, and zeros in the places that this leaves.
use Rattle.std.specs.Prelude.{ℕ, ◌-◌, List, [], ◌∷◌, ◌++◌, cond, length, take, drop, replicate, eqb}
use Rattle.book.specs.declared.Pool.{Pool}
use Rattle.book.specs.Records.{no_pool}

-- the records whose mark is 0
abbrev pub unmarked : List ℕ → List Pool → List Pool
unmarked [] ps = []
unmarked (m ∷ ms) [] = []
unmarked (m ∷ ms) (p ∷ ps) = cond (eqb m 0) (p ∷ unmarked ms ps) (unmarked ms ps)

-- the table after its live records that are marked are taken out
abbrev pub closed_up : List ℕ → ℕ → List Pool → List Pool
closed_up marks live t = unmarked marks (take live t) ++ (replicate (live - length (unmarked marks (take live t))) no_pool ++ drop live t)
