-- The laws of the positions: how many millions a lot has, and that only an end has any.
use mathlib.Core.Path.{◌≡◌, refl}
use mathlib.Core.Bool.{false, true≢false}
use Prim.Native.Nat.{ℕ, ◌≤◌}
use native.Mathlib.Omega.{arith}
use borrow.Author.Tests.{tests}
use Rattle.std.specs.Prelude.{Option, Some, None}
use Rattle.fields.specs.Fields.{read_number}
use Rattle.layout.specs.declared.Detail.{Detail}
use Rattle.terminator.specs.declared.Terminator.{Terminator}
use Rattle.terminator.specs.declared.Terminator.TheVariants.{GoodEnd}
use Rattle.terminator.specs.Terminators.{positions, positions_of, terminator_of, is_end, millions_of, term}

-- a good lot has at most 99 millions
positions_small : (n : ℕ) → millions_of (positions n) ≤ 99
unfolding positions
positions_small n = grind (arith, tests)

pub millions_small : (d : Detail) → millions_of (term d) ≤ 99
unfolding terminator_of
millions_small d = go (read_number d.terminator 1 3)
  where
    go : (f : Option ℕ) → millions_of (positions_of f) ≤ 99
    go (Some n) = positions_small n
    go None = omega arith

-- only an end has millions
pub middle_none : (t : Terminator) → is_end t ≡ false → millions_of t ≡ 0
middle_none (GoodEnd n) e = absurd (true≢false e)
middle_none _ e = refl
