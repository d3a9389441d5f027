-- A yes or a no as a number.
use Rattle.std.specs.Prelude.{ℕ, Bool, cond}

-- 1 or 0
unfoldable pub bit : Bool → ℕ
bit b = cond b 1 0
