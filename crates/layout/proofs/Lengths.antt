-- The number of pools by the body's length; and that the columns follow one another, and their widths sum to what the paper says.
use mathlib.Core.Path.{◌≡◌, refl}
use mathlib.Core.List.{List, [], ◌∷◌}
use mathlib.Core.Bool.{Bool, true, ◌&&◌}
use Prim.Native.Nat.{ℕ, ◌+◌, ◌≤◌, ◌<◌}
use native.Mathlib.Omega.{arith}
use lib.ListN.{length}
use lib.Dec.{eqb}
use borrow.Author.Tests.{tests}
use Rattle.layout.specs.declared.Column.{Column}
use Rattle.layout.specs.Columns.{header, header_width, detail_width}
use Rattle.layout.specs.Details.{pools_max, pools, length_fits, pool_count, place_of}

-- whether columns follow one another from a place up to an end
abbrev follow : ℕ → List Column → ℕ → Bool
follow place [] end = eqb place end
follow place (c ∷ cs) end = eqb c.at place && follow (place + c.width) cs end

-- the header's columns fill its 187 bytes, with no gap and no overlap
pub header_filled : follow 0 header header_width ≡ true
header_filled = refl

pub detail_width_law : detail_width ≡ 199
detail_width_law = refl

module _ (body : List ℕ) where
  -- what a length that fits says
  pub fit_length : length_fits body ≡ true → length body ≡ place_of (pools body)
  unfolding length_fits
  fit_length e = grind (arith, tests)

  -- the details that are counted stand in the body
  pub counted : (i : ℕ) → i < pool_count body → place_of i + detail_width ≤ length body
  unfolding pool_count length_fits
  counted i h = grind (arith, tests)

  pub count_max : pool_count body ≤ pools_max
  unfolding pool_count length_fits
  count_max = grind (arith, tests)
