-- Sums over records as a loop takes them: one record after another, each with whether it begins a lot.
use Rattle.std.specs.Prelude.{ℕ, ◌+◌, List, [], ◌∷◌, Bool, cond, not, ◌&&◌, eqb}
use Rattle.book.specs.declared.Pool.{Pool}
use Rattle.book.specs.Records.{kind_good, good_weight}

-- a record begins a lot where message and ordinal differ from those of the record before it
abbrev pub run_sum : (Bool → Pool → ℕ) → ℕ → ℕ → List Pool → ℕ
run_sum share message ordinal [] = 0
run_sum share message ordinal (r ∷ rs) =
    share (not (eqb r.message message && eqb r.ordinal ordinal)) r + run_sum share r.message r.ordinal rs

-- a record's share of its lot's weight: a good lot's millions once, else its own face
abbrev pub weight_share : Bool → Pool → ℕ
weight_share begins r = cond (eqb r.kind kind_good) (cond begins (good_weight r.millions) 0) r.current

-- a record's share of its lot's millions: each lot once
abbrev pub millions_share : Bool → Pool → ℕ
millions_share begins r = cond begins r.millions 0

-- a trade's share
abbrev pub share_of : ℕ → (Bool → Pool → ℕ) → Bool → Pool → ℕ
share_of t share begins r = cond (eqb r.trade t) (share begins r) 0
