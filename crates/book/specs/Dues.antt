-- Lots due to trades (01, "The book"): a message's new lots, each with the trade that it goes to, and what they come to for each trade.
use Rattle.std.specs.Prelude.{ℕ, List, cond, eqb}
use Rattle.lists.specs.Lists.{sum_of}
use Rattle.terminator.specs.Lots.{Lot, lot_weight}

-- a lot on its way to a trade
pub record Due : Type 0 where
  pub to : ℕ
  pub lot : Lot

abbrev pub due : ℕ → Lot → Due
due t l = record { to = t; lot = l }

-- what a lot counts for on a trade: nothing on any but its own
abbrev pub due_share : ℕ → (Lot → ℕ) → Due → ℕ
due_share t share d = cond (eqb d.to t) (share d.lot) 0

-- what the lots due to a trade weigh
unfoldable pub due_weight : ℕ → List Due → ℕ
due_weight t ds = sum_of (due_share t lot_weight) ds
