-- Prices (01, "The book"), with nine implied decimals.
use Rattle.std.specs.Prelude.{ℕ, ◌/◌, Bool, eqb}

-- a division by this drops the last three decimals
abbrev pub last_three : ℕ
last_three = 1000

-- prices agree when they are equal after the last three decimals are dropped; nothing is rounded
abbrev pub prices_agree : ℕ → ℕ → Bool
prices_agree a b = eqb (a / last_three) (b / last_three)
