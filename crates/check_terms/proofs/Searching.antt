-- The first trade that passes a test, by the library's words, and the trade that a broken ID names: none.
use Rattle.std.proofs.Common.{◌≡◌, ℕ, ◌+◌, List, [], ◌∷◌, Bool, length, unwrap_or, not, arith}
use Rattle.std.specs.List.{position, position_or_len}
use Rattle.std.proofs.lemmas.List.Sums.{prefix_len-le-length}
use Rattle.book.specs.declared.Trade.{Trade}
use Rattle.book.specs.Messages.{id_in}
use Rattle.book.specs.Trades.{first_trade, open_pars, may_take, trade_of_on}
use Rattle.trade_id.specs.declared.TradeId.TheVariants.{Broken}

-- a test of a trade and its own open par
abbrev pub own : (Trade → ℕ → Bool) → Trade → Bool
own p t = p t t.open_par

first_from : (p : Trade → ℕ → Bool) (i : ℕ) (ts : List Trade) → i + position_or_len (own p) ts ≡ first_trade p i ts (open_pars ts)
first_from p i [] = omega arith
first_from p i (t ∷ ts) = grind (arith, first_from p (i + 1) ts)

-- it is the first index at which the test passes, or the number of trades
pub first_is : (p : Trade → ℕ → Bool) (ts : List Trade) → unwrap_or (position (own p) ts) (length ts) ≡ first_trade p 0 ts (open_pars ts)
first_is p ts = grind (arith, first_from p 0 ts, prefix_len-le-length (λ (t : Trade). not (own p t)) ts)

broken_from : (body : List ℕ) (i : ℕ) (ts : List Trade) → i + length ts ≡ first_trade (may_take body Broken) i ts (open_pars ts)
broken_from body i [] = omega arith
broken_from body i (t ∷ ts) = grind (arith, broken_from body (i + 1) ts)

pub broken_on : (body : List ℕ) (ts : List Trade) → id_in body ≡ Broken → length ts ≡ trade_of_on body ts (open_pars ts)
unfolding trade_of_on
broken_on body ts e = rw e (omega (arith, broken_from body 0 ts))
