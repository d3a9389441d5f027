-- A trade's open par against the weight of its place, of which there may be too few (01, number 42).
use Rattle.std.specs.Prelude.{ℕ, ◌+◌, List, Bool, ◌&&◌, length, slice_index, eqb, ltb}
use Rattle.book.specs.declared.Trade.{Trade}

abbrev pub makes_par : List ℕ → ℕ → Trade → Bool
makes_par weights place t = ltb place (length weights) && eqb (t.open_par + slice_index weights place) t.par
