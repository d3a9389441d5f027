-- The pools of a body by their index.
use mathlib.Core.List.{List}
use Prim.Native.Nat.{ℕ}
use Rattle.layout.specs.declared.Detail.{Detail}
use Rattle.layout.specs.Details.{detail_at, place_of}

abbrev pub pool_of : List ℕ → ℕ → Detail
pool_of body i = detail_at body (place_of i)
