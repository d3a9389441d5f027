-- The matched fields of a pool as three words (01, "The book"): the first eight of their twenty-two bytes, the next eight, and the six that are left.
use Rattle.std.specs.Prelude.{ℕ, List, [], ◌∷◌, ◌++◌, take, drop, get_or}
use Rattle.std.specs.Int.{w64, from_le_bytes, to_le_bytes}
use Rattle.layout.specs.declared.Matched.{Matched}

abbrev pub first_bytes : Matched → List ℕ
first_bytes f =
    get_or f.lot 0 0 ∷ get_or f.lot 1 0 ∷ get_or f.lot 2 0 ∷ get_or f.lot 3 0 ∷ get_or f.lot 4 0 ∷ get_or f.lot 5 0 ∷ get_or f.pool 0 0 ∷ get_or f.pool 1 0 ∷ []

abbrev pub next_bytes : Matched → List ℕ
next_bytes f =
    get_or f.pool 2 0 ∷ get_or f.pool 3 0 ∷ get_or f.pool 4 0 ∷ get_or f.pool 5 0 ∷ get_or f.pool 6 0 ∷ get_or f.original 0 0 ∷ get_or f.original 1 0 ∷ get_or f.original 2 0 ∷ []

abbrev pub last_bytes : Matched → List ℕ
last_bytes f =
    get_or f.original 3 0 ∷ get_or f.original 4 0 ∷ get_or f.original 5 0 ∷ get_or f.original 6 0 ∷ get_or f.original 7 0 ∷ get_or f.original 8 0 ∷ 0 ∷ 0 ∷ []

-- the words, each with its first byte the lowest
unfoldable pub words_of : Matched → List ℕ
words_of f = from_le_bytes w64 (first_bytes f) ∷ from_le_bytes w64 (next_bytes f) ∷ from_le_bytes w64 (last_bytes f) ∷ []

-- the fields that three words are
abbrev pub fields_by : List ℕ → List ℕ → List ℕ → Matched
fields_by a b c = record { lot = take 6 a; pool = drop 6 a ++ take 5 b; original = drop 5 b ++ take 6 c }

unfoldable pub fields_in : List ℕ → Matched
fields_in ws = fields_by (to_le_bytes w64 (get_or ws 0 0)) (to_le_bytes w64 (get_or ws 1 0)) (to_le_bytes w64 (get_or ws 2 0))
