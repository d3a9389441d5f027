-- A small book and bodies for it, written column after column (01, "Columns"): the calls that are computed in `proofs/Example` and in the proof table.
use Rattle.std.specs.Prelude.{ℕ, ◌+◌, List, [], ◌∷◌, ◌++◌, replicate}
use Rattle.output.specs.Output.{digits_of, blanks}
use Rattle.sequence.specs.Sequence.{outbound, start_line}
use Rattle.book.specs.declared.Trade.{Trade}
use Rattle.book.specs.declared.Values.{Values}
use Rattle.book.specs.declared.Pool.{Pool}
use Rattle.book.specs.declared.Caller.{Caller}
use Rattle.book.specs.Records.{no_pool}
use Rattle.book.specs.Messages.{ftba}
use Rattle.book.specs.Checks.{room_least, asked_by}
use Rattle.book.specs.Promise.{Put}

-- "MBAA" sells and "MBBB" buys
abbrev pub seller : List ℕ
seller = 77 ∷ 66 ∷ 65 ∷ 65 ∷ []

abbrev pub buyer : List ℕ
buyer = 77 ∷ 66 ∷ 66 ∷ 66 ∷ []

-- "01F082630"
abbrev pub cusip : List ℕ
cusip = 48 ∷ 49 ∷ 70 ∷ 48 ∷ 56 ∷ 50 ∷ 54 ∷ 51 ∷ 48 ∷ []

-- "0123" and "1200"
abbrev pub subscriber : List ℕ
subscriber = 48 ∷ 49 ∷ 50 ∷ 51 ∷ []

abbrev pub connection : List ℕ
connection = 49 ∷ 50 ∷ 48 ∷ 48 ∷ []

abbrev pub on : List ℕ
on = 79 ∷ 78 ∷ []

abbrev pub correction : List ℕ
correction = 67 ∷ 67 ∷ []

abbrev pub dk : List ℕ
dk = 68 ∷ 75 ∷ []

abbrev pub joined : List (List ℕ) → List ℕ
joined [] = []
joined (xs ∷ xss) = xs ++ joined xss

-- what differs between the headers
pub record Header : Type 0 where
  pub type : List ℕ
  pub sequence : ℕ
  pub submitter : List ℕ
  pub gdmm : ℕ
  pub reason : ℕ
  pub target : ℕ
  pub pools : ℕ

unfoldable pub header : Header → List ℕ
header h =
    joined
    (h.type ∷ digits_of 6 h.sequence ∷ digits_of 3 2 ∷ subscriber ∷ connection ∷ h.submitter ∷ ftba ∷ cusip ∷ blanks 1 ∷ digits_of 11 100 ∷ blanks 10
    ∷ digits_of 12 98500000000 ∷ digits_of 4 h.gdmm ∷ blanks 8 ∷ digits_of 8 7142026 ∷ blanks 8 ∷ blanks 16 ∷ blanks 4 ∷ digits_of 4 h.reason
    ∷ digits_of 11 h.target ∷ blanks 15 ∷ blanks 4 ∷ blanks 1 ∷ blanks 30 ∷ digits_of 4 h.pools ∷ [])

-- a detail by pool number, original face in dollars, current face in cents and terminator
unfoldable pub detail : ℕ → ℕ → ℕ → ℕ → List ℕ
detail pool original current terminator =
    joined (blanks 8 ∷ digits_of 7 pool ∷ digits_of 9 original ∷ blanks 55 ∷ digits_of 11 current ∷ blanks 32 ∷ digits_of 4 terminator ∷ blanks 73 ∷ [])

-- ---- a book of two trades, a table of four records, and a call with a body
-- a trade by its seller and settlement, its number and its par
abbrev pub dealt : List ℕ → ℕ → ℕ → ℕ → Trade
dealt from settles n par =
    record {
      id = 84 ∷ (48 + n) ∷ replicate 14 0;
      length = 2;
      seller = from;
      buyer = buyer;
      contra = ftba;
      cusip = cusip;
      settlement = settles;
      price = 98500000000;
      par = par;
      open_par = 0;
    }

unfoldable pub trade : ℕ → ℕ → Trade
trade n par = dealt seller 7142026 n par

abbrev pub lending : List Trade → ℕ → Values
lending trades last =
    record {
      trades = trades;
      lent =
          record {
            trade_count = 2;
            holidays = [];
            holiday_count = 0;
            subscriber = subscriber;
            limits = record { ceiling = 2500; variance = 10000; pools_a_million = 3; least = 1000 };
          };
      last_message_id = last;
      connection = record { id = connection; line = start_line; outbound = outbound 0 };
    }

unfoldable pub values : ℕ → Values
values last = lending (trade 1 200000000 ∷ trade 2 500000000 ∷ []) last

unfoldable pub table : List Pool
table = replicate 4 no_pool

abbrev pub midnight : Caller
midnight = record { time = 48 ∷ 48 ∷ 48 ∷ 48 ∷ 48 ∷ 48 ∷ []; seed = 0 }

unfoldable pub put : List ℕ → Put
put body = record { body = body; asked = asked_by midnight room_least }
