-- What the parts of number 42 look at: records that are of one lot, and records that are light enough to sum.
use Rattle.std.specs.Prelude.{ℕ, ◌+◌, ◌≤◌, ◌<◌, List, Bool, ◌&&◌, All, eqb, leb}
use Rattle.terminator.specs.Terminators.{millions_most}
use Rattle.sequence.specs.Sequence.{sound_line}
use Rattle.book.specs.declared.Trade.{Trade}
use Rattle.book.specs.declared.Book.{Book}
use Rattle.book.specs.declared.Pool.{Pool}
use Rattle.book.specs.Opening.{trades_max, records_max, eleven_digits_max, values_fine}

-- two records agree on message, ordinal, trade, kind and millions
abbrev pub of_one_lot : Pool → Pool → Bool
of_one_lot q r = eqb q.message r.message && (eqb q.ordinal r.ordinal && (eqb q.trade r.trade && (eqb q.kind r.kind && eqb q.millions r.millions)))

-- a record has one of 64 trades, a face of eleven digits and at most 99 millions
abbrev pub light_one : Pool → Type 0
light_one r = (r.trade < trades_max) × (r.current ≤ eleven_digits_max) × (r.millions ≤ millions_most)

abbrev pub Light : List Pool → Type 0
Light = All light_one

-- a trade's open par and a weight make up its par
abbrev pub makes_up : Trade × ℕ → Bool
makes_up p = eqb (p.0.open_par + p.1) p.0.par

-- the book by itself, and the numbers of records and of live ones
abbrev pub book_fine : Book → ℕ → Bool
book_fine b records = values_fine b.values && (leb records records_max && (sound_line b.values.connection.line && leb b.live records))
