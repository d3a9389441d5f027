-- The figures that are quoted of a trade (demand 3): what a client must be told after a run.
use Rattle.std.specs.Prelude.{ℕ, ◌+◌, ◌≡◌, List}
use Rattle.book.specs.declared.Values.{Values}
use Rattle.book.specs.Trades.{trades_of}
use Rattle.book.specs.Checks.{trade_at}
use Rattle.book.specs.History.{Fed, standing_weight, millions_by_ons, millions_by_dks}
use Rattle.book.specs.Promise.{lots_brought}

-- open par and good millions of a trade, by the history of the same messages
pub record Told (v : Values) (fs : List Fed) (trade open_par millions : ℕ) : Type 0 where
  -- the open par is the opening par less the weights of the lots brought to the trade and not taken off
  pub history_sum : open_par + standing_weight trade (lots_brought v fs) ≡ (trade_at (trades_of v) trade).par
  -- the millions are those that accepted ONs brought to it less those that accepted DKs took off
  pub standing : millions + millions_by_dks trade (lots_brought v fs) ≡ millions_by_ons trade (lots_brought v fs)
