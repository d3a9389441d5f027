-- Marked records: a mark for each record, 0 where it is not marked.
use Rattle.std.specs.Prelude.{ℕ, ◌≤◌, ◌<◌, List, [], ◌∷◌, cond, length, get_or, eqb}
use Rattle.terminator.specs.Terminators.{millions_most}
use Rattle.book.specs.declared.Pool.{Pool}
use Rattle.book.specs.Records.{no_pool}
use Rattle.book.specs.Opening.{records_max, eleven_digits_max}

-- the records whose mark is not 0
abbrev pub marked : List ℕ → List Pool → List Pool
marked [] rs = []
marked (m ∷ ms) [] = []
marked (m ∷ ms) (r ∷ rs) = cond (eqb m 0) (marked ms rs) (r ∷ marked ms rs)

-- what the weight of marked records asks: a mark for each live record, and faces and millions of a sound table
pub record Weighable (rs : List Pool) (ms : List ℕ) : Type 0 where
  pub marks : length rs ≤ length ms
  pub few : length rs ≤ records_max
  pub faces : (i : ℕ) → i < length rs → (get_or rs i no_pool).current ≤ eleven_digits_max
  pub millions : (i : ℕ) → i < length rs → (get_or rs i no_pool).millions ≤ millions_most
