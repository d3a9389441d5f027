-- Raising one cell leaves every other cell, since only that place of that row is written; and a full cell stays, since what is written is what stood there.
use Rattle.std.proofs.Common.{◌≡◌, ℕ, ◌+◌, ◌-◌, ◌^◌, ◌≤◌, ◌<◌, min, List, [], cond, ◌&&◌, eqb, length, get_or, set, length-set, arith}
use Rattle.std.proofs.lemmas.Grind.{common_steps}
use Rattle.tally.specs.Tally.{full_cell, cell, more, one_more}

-- a sum that stops at a full cell is one more
pub more_is : (count : ℕ) → count ≤ full_cell → min (count + 1) (2 ^ 32 - 1) ≡ more count
more_is count h = grind arith

module _ (tally : List (List ℕ)) (row column : ℕ) where
  pub rows_stay : length (one_more tally row column) ≡ length tally
  unfolding one_more
  rows_stay = length-set tally row (set (get_or tally row []) column (more (cell tally row column)))

  -- a cell after it: the raised one, or as it was
  module _ (at place : ℕ) (l : at < length tally) where
    pub width_stays : length (get_or (one_more tally row column) at []) ≡ length (get_or tally at [])
    unfolding one_more
    width_stays = grind (arith, common_steps)

    pub cell_after : place < length (get_or tally at []) → cell (one_more tally row column) at place ≡ cond (eqb at row && eqb place column) (more (cell tally at place)) (cell tally at place)
    unfolding one_more
    cell_after k = grind (arith, common_steps)
