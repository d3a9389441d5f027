-- The proof table (01, "Proof table"): its cases in the paper's order, and when a case holds. A number is that of the answer to a whole call.
use Rattle.std.specs.Prelude.{ℕ, ◌+◌, List, [], ◌∷◌, ◌++◌, map, Bool, true, false, ◌&&◌, length, eqb, leb}
use Rattle.std.specs.Bool.{beq}
use Rattle.lists.specs.Lists.{same, keep, all}
use Rattle.output.specs.Output.{digits_of}
use Rattle.terminator.specs.declared.Terminator.{Terminator}
use Rattle.terminator.specs.Terminators.{terminator_of, is_end, is_wrong, is_good, kind_of, millions_of}
use Rattle.calendar.specs.Calendar.{business_date}
use Rattle.trade_id.specs.Prices.{prices_agree}
use Rattle.book.specs.Reasons.{code_of}
use Rattle.book.specs.Checks.{answer_of}
use Rattle.book.specs.Promise.{State, call_of, after, opened_state}
use Rattle.book.specs.Samples as samples
use Rattle.book.specs.Samples.{header, detail, seller, put}

-- ---- messages to the sample book
-- pools one after another, numbered from n, each with its terminator and a face of a million dollars
abbrev pub pools_with : ℕ → List ℕ → List ℕ
pools_with n [] = []
pools_with n (t ∷ ts) = detail n 1000000 100000000 t ++ pools_with (n + 1) ts

-- an ON with those terminators
unfoldable pub on_with : List ℕ → List ℕ
on_with ts = header (record { type = samples.on; sequence = 1; submitter = seller; gdmm = 0; reason = 0; target = 0; pools = 0 }) ++ pools_with 1 ts

-- a CC with them; the number of its pools is that of the terminators that begin with 7
unfoldable pub cc_with : List ℕ → List ℕ
cc_with ts =
    header (record { type = samples.correction; sequence = 1; submitter = seller; gdmm = 0; reason = 0; target = 1; pools = length (keep (leb 7000) ts) }) ++ pools_with 1 ts

-- an ON of an odd lot of one pool, with a sequence number
unfoldable pub on_numbered : ℕ → List ℕ
on_numbered n = header (record { type = samples.on; sequence = n; submitter = seller; gdmm = 0; reason = 0; target = 0; pools = 0 }) ++ detail 1 1000000 0 999

-- an ON of a good lot of two millions in one pool, with a current face in cents
unfoldable pub on_of_two : ℕ → List ℕ
on_of_two cents = header (record { type = samples.on; sequence = 1; submitter = seller; gdmm = 2; reason = 0; target = 0; pools = 0 }) ++ detail 1 1000000 cents 2

-- ---- the numbers of their answers
-- the sample book as opened, with a variance of 10,000 cents a million
unfoldable pub start : State
start = opened_state (samples.values 0) samples.table

-- the number that a message gets; 0 where it is accepted
abbrev pub number_on : State → List ℕ → ℕ
number_on s body = code_of (answer_of (call_of s (put body)))

-- the numbers that messages get one after another
unfoldable pub numbers : State → List (List ℕ) → List ℕ
numbers s [] = []
numbers s (body ∷ bodies) = number_on s body ∷ numbers (after s (put body)) bodies

-- the number of a CC that 19 to 25 let pass: nothing lives under its target
abbrev pub passes : ℕ
passes = 30

-- what four bytes say, with 0 at position one
abbrev pub term_of : ℕ → Terminator
term_of n = terminator_of (digits_of 4 n)

-- ---- the cases
-- a case and what it must give
pub data Case : Type 0 where
  -- positions two to four that end a good lot of so many millions
  good : ℕ → ℕ → Case
  -- positions two to four that are wrong
  wrong : ℕ → Case
  -- the terminators of an ON, and the number that it gets
  on : List ℕ → ℕ → Case
  -- the terminators of a CC, and the number that it gets
  substitution : List ℕ → ℕ → Case
  -- sequence numbers from the start, and the number that each message gets
  sequence : List ℕ → List ℕ → Case
  -- two prices of nine decimals, and whether they agree
  prices : ℕ → ℕ → Bool → Case
  -- a date mmddyyyy without holidays, and whether it is a business date
  date : ℕ → Bool → Case
  -- the sum of faces in cents of a good lot of two millions, and the number that its ON gets
  variance : ℕ → ℕ → Case

abbrev pub holds : Case → Bool
holds (good n millions) = is_end (term_of n) && (is_good (kind_of (term_of n)) && eqb (millions_of (term_of n)) millions)
holds (wrong n) = is_wrong (term_of n)
holds (on ts n) = eqb (number_on start (on_with ts)) n
holds (substitution ts n) = eqb (number_on start (cc_with ts)) n
holds (sequence ns gets) = same (numbers start (map on_numbered ns)) gets
holds (prices a b agree) = beq (prices_agree a b) agree
holds (date n business) = beq (business_date n []) business
holds (variance cents n) = eqb (number_on start (on_of_two cents)) n

abbrev pub table : List Case
table =
    good 99 99
    ∷ wrong 100
    ∷ on (888 ∷ 999 ∷ []) 19
    ∷ substitution (6001 ∷ 6002 ∷ 7003 ∷ []) passes
    ∷ substitution (6001 ∷ 7002 ∷ []) 21
    ∷ substitution (6000 ∷ 6999 ∷ 7000 ∷ 7999 ∷ []) passes
    ∷ substitution (6999 ∷ 6999 ∷ 7999 ∷ 7999 ∷ []) 20
    ∷ sequence (2 ∷ 3 ∷ 2 ∷ 3 ∷ []) (0 ∷ 0 ∷ 0 ∷ 0 ∷ [])
    ∷ sequence (5 ∷ 5 ∷ []) (0 ∷ 12 ∷ [])
    ∷ prices 98123456789 98123456000 true
    ∷ prices 98123456789 98123457000 false
    ∷ date 2292028 true
    ∷ date 2292026 false
    ∷ date 7042026 false
    ∷ variance 200020000 0
    ∷ variance 200020001 35
    ∷ []

-- the whole table by one test
unfoldable pub table_holds : Bool
table_holds = all holds table
