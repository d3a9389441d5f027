-- What the program opens its book with, and what it says of a tape (01, Program daytape).
use Rattle.std.specs.Prelude.{ℕ, ◌-◌, ◌≡◌, List, [], ◌∷◌, replicate, unwrap_or}
use Rattle.trade_id.specs.SpecialInstructions.{id_length_max}
use Rattle.sequence.specs.Sequence.{outbound, start_line}
use Rattle.book.specs.declared.Trade.{Trade}
use Rattle.book.specs.declared.Values.{Values}
use Rattle.book.specs.Opening.{trades_max, holidays_max}
use Rattle.book.specs.Records.{no_pool}
use Rattle.book.specs.Promise.{State, after_all, fed, opened_state}
use Rattle.calls.specs.declared.Figures.{Figures}
use Rattle.calls.specs.Figures.{figures_of}
use Rattle.image.specs.Images.{blank}
use Rattle.day.specs.Tape.{puts_of}
use Rattle.day.specs.Days.{accepted_among, others_among}
use Rattle.daytape.specs.declared.Report.{Report}

-- T1, MBAA, MBBB, FTBA, 01F082630, 07142026, 98.5 and two million dollars
abbrev pub the_trade : Trade
the_trade = record {
  id = 84 ∷ 49 ∷ replicate (id_length_max - 2) 0;
  length = 2;
  seller = 77 ∷ 66 ∷ 65 ∷ 65 ∷ [];
  buyer = 77 ∷ 66 ∷ 66 ∷ 66 ∷ [];
  contra = 70 ∷ 84 ∷ 66 ∷ 65 ∷ [];
  cusip = 48 ∷ 49 ∷ 70 ∷ 48 ∷ 56 ∷ 50 ∷ 54 ∷ 51 ∷ 48 ∷ [];
  settlement = 7142026;
  price = 98500000000;
  par = 200000000;
  open_par = 200000000;
}

-- one trade, no holidays, subscriber 0123, connection 1200
unfoldable pub values_given : Values
values_given = record {
  trades = the_trade ∷ replicate (trades_max - 1) blank;
  lent =
      record {
        trade_count = 1;
        holidays = replicate holidays_max 0;
        holiday_count = 0;
        subscriber = 48 ∷ 49 ∷ 50 ∷ 51 ∷ [];
        limits = record { ceiling = 2500; variance = 10000; pools_a_million = 3; least = 1000 };
      };
  last_message_id = 0;
  connection = record { id = 49 ∷ 50 ∷ 48 ∷ 48 ∷ []; line = start_line; outbound = outbound 0 };
}

-- a book opened, over 512 records
abbrev pub start_of : Values → State
start_of v = opened_state v (replicate 512 no_pool)

abbrev pub start : State
start = start_of values_given

-- what is said of a trade of a state: zeros where it is not known
abbrev pub said_of : State → ℕ → Figures
said_of s trade = unwrap_or (figures_of s.book s.table trade) (record { open_par = 0; millions = 0 })

-- the two counts of the tape's calls to a book that is opened with some values, and what the book then says of the trade
pub record ReportsOver (v : Values) (tape : List ℕ) (r : Report) : Type 0 where
  pub accepted : r.accepted ≡ accepted_among (fed (start_of v) (puts_of tape))
  pub others : r.others ≡ others_among (fed (start_of v) (puts_of tape))
  pub open_par : r.open_par ≡ (said_of (after_all (start_of v) (puts_of tape)) 0).open_par
  pub millions : r.millions ≡ (said_of (after_all (start_of v) (puts_of tape)) 0).millions

-- the same with the program's values
abbrev pub Reports : List ℕ → Report → Type 0
Reports = ReportsOver values_given
