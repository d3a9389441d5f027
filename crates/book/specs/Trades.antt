-- Trades (01, "The book"): the one that an ID names, whose terms agree with a message's, and where an ON goes.
use Rattle.std.specs.Prelude.{Option}
use Rattle.std.specs.Prelude.{ℕ, ◌+◌, List, [], ◌∷◌, map, Bool, false, cond, ◌&&◌, length, take, eqb, leb}
use Rattle.lists.specs.Lists.{same, part, sum_of}
use Rattle.fields.specs.Fields.{holds}
use Rattle.layout.specs.Columns as columns
use Rattle.layout.specs.Columns.{bytes_in, number_in}
use Rattle.terminator.specs.Lots.{lot_weight}
use Rattle.message_type.specs.declared.MessageType.{MessageType}
use Rattle.message_type.specs.Questions.{buyer_submits}
use Rattle.trade_id.specs.declared.TradeId.{TradeId}
use Rattle.trade_id.specs.declared.TradeId.TheVariants.{Whole, Broken, Absent}
use Rattle.trade_id.specs.Prices.{prices_agree}
use Rattle.book.specs.declared.Trade.{Trade}
use Rattle.book.specs.declared.Values.{Values}
use Rattle.book.specs.Messages.{type_of, id_in, brought}

-- the trades that are opened
abbrev pub trades_of : Values → List Trade
trades_of v = take v.lent.trade_count v.trades

-- the bytes of a trade's ID
abbrev pub trade_name : Trade → List ℕ
trade_name t = take t.length t.id

-- the submitter is the seller for ON and CC, the buyer for DK
abbrev pub side_of : MessageType → Trade → List ℕ
side_of m t = cond (buyer_submits m) t.buyer t.seller

-- a field is this number, or a price that agrees with it
abbrev pub number_is : Option ℕ → ℕ → Bool
number_is f k = holds (λ (n : ℕ). eqb n k) f

abbrev pub price_is : Option ℕ → ℕ → Bool
price_is f k = holds (λ (p : ℕ). prices_agree p k) f

-- terms agree when submitter, contra, CUSIP and settlement are equal and the prices are, but for their last three decimals
unfoldable pub agrees : List ℕ → Trade → Bool
agrees body t =
    same (bytes_in body columns.submitter) (side_of (type_of body) t)
    && (same (bytes_in body columns.contra) t.contra
    && (same (bytes_in body columns.cusip) t.cusip
    && (number_is (number_in body columns.settlement) t.settlement
    && price_is (number_in body columns.price) t.price)))

-- whether a trade ID in special instructions is a trade's
abbrev pub is_named_by : List ℕ → TradeId → Trade → Bool
is_named_by body (Whole place n) t = same (part (bytes_in body columns.special) place n) (trade_name t)
is_named_by body Broken t = false
is_named_by body Absent t = false

-- the first trade in opening order that passes a test of trade and open par, by index, or the number of trades where none does
abbrev pub first_trade : (Trade → ℕ → Bool) → ℕ → List Trade → List ℕ → ℕ
first_trade p i [] opens = i
first_trade p i (t ∷ ts) [] = i + length (t ∷ ts)
first_trade p i (t ∷ ts) (o ∷ os) = cond (p t o) i (first_trade p (i + 1) ts os)

-- what a message's new lots weigh
unfoldable pub brought_weight : List ℕ → ℕ
brought_weight body = sum_of lot_weight (brought body)

-- the trade that an ON goes to at given open pars: the one its ID names, else the first whose terms agree and whose open par holds its whole weight
abbrev pub may_take : List ℕ → TradeId → Trade → ℕ → Bool
may_take body (Whole place n) t left = is_named_by body (Whole place n) t
may_take body Broken t left = false
may_take body Absent t left = agrees body t && leb (brought_weight body) left

unfoldable pub trade_of_on : List ℕ → List Trade → List ℕ → ℕ
trade_of_on body ts opens = first_trade (may_take body (id_in body)) 0 ts opens

-- the open pars as the book has them
abbrev pub open_pars : List Trade → List ℕ
open_pars ts = map (λ (t : Trade). t.open_par) ts
