-- What a book says of a trade (01, "The book").
use Rattle.std.specs.Prelude.{ℕ, List, Option, Some, None, cond, ◌&&◌, length, ltb}
use Rattle.book.specs.declared.Book.{Book}
use Rattle.book.specs.declared.Pool.{Pool}
use Rattle.book.specs.Records.{standing_millions}
use Rattle.book.specs.Trades.{trades_of}
use Rattle.book.specs.Checks.{trade_at}
use Rattle.book.specs.Soundness.{live_of, is_sound}
use Rattle.calls.specs.declared.Figures.{Figures}

-- the open par and the standing millions of a trade that is opened, where the book is sound; else nothing
unfoldable pub figures_of : Book → List Pool → ℕ → Option Figures
figures_of b table trade =
    cond (is_sound b table && ltb trade (length (trades_of b.values)))
    (Some (record { open_par = (trade_at (trades_of b.values) trade).open_par; millions = standing_millions trade (live_of b table) }))
    None
