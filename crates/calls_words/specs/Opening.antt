-- Opening on words (01, "The book" and number 41): the values that the words lend are opened; of what opening sets itself, and of words past the counts, nothing is asked.
use Rattle.std.specs.Prelude.{ℕ, ◌≡◌, List, Bool, true, false, ◌&&◌}
use Rattle.lists.specs.Lists.{pasted}
use Rattle.book.specs.declared.Pool.{Pool}
use Rattle.book.specs.Reasons.{number_of, opening_refused}
use Rattle.book.specs.Opening.{opening_fine, opened, cleared}
use Rattle.image.specs.Images.{is_lent, values_in, image_of}

-- words that lend values, and values and a table that 41 lets pass
unfoldable pub openable : List ℕ → List Pool → Bool
openable ws pools = is_lent ws && opening_fine (values_in ws) pools

-- the words of the opened book and a table of zeros
pub record Passed (ws : List ℕ) (pools : List Pool) (ws' : List ℕ) (pools' : List Pool) (r : ℕ) : Type 0 where
  pub code : r ≡ 0
  pub image : ws' ≡ pasted ws 0 (image_of (opened (values_in ws)))
  pub zeros : pools' ≡ cleared pools

-- all stays as it is
pub record Refused (ws : List ℕ) (pools : List Pool) (ws' : List ℕ) (pools' : List Pool) (r : ℕ) : Type 0 where
  pub code : r ≡ number_of opening_refused
  pub image : ws' ≡ ws
  pub table : pools' ≡ pools

pub record Opening (ws : List ℕ) (pools : List Pool) (ws' : List ℕ) (pools' : List Pool) (r : ℕ) : Type 0 where
  pub passes : openable ws pools ≡ true → Passed ws pools ws' pools' r
  pub refuses : openable ws pools ≡ false → Refused ws pools ws' pools' r
