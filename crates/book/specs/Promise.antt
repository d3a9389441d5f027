-- Demand 3: what holds after every list of frame calls put to a book that was opened without refusal, refused calls included.
use Rattle.std.specs.Prelude.{ℕ, ◌+◌, ◌≤◌, ◌<◌, ◌≡◌, true, length}
use mathlib.Core.List.{List, [], ◌∷◌, ◌++◌, Memᴰ}
use Rattle.book.specs.declared.Values.{Values}
use Rattle.book.specs.declared.Book.{Book}
use Rattle.book.specs.declared.Pool.{Pool}
use Rattle.book.specs.Reasons.{is_accepted}
use Rattle.book.specs.Records.{Fields, standing_millions}
use Rattle.book.specs.Messages.{target_of, listed}
use Rattle.book.specs.Trades.{trades_of}
use Rattle.book.specs.Opening.{opened, cleared}
use Rattle.book.specs.Soundness.{live_of}
use Rattle.book.specs.Checks.{Asked, Call, call, trade_at, lot_fields, answer_of}
use Rattle.book.specs.Step.{book_after, table_after}
use Rattle.book.specs.History.{Brought, Fed, at_opening, history, is_target, takes_off, standing_weight, millions_by_ons, millions_by_dks}

-- book and table between two calls
pub record State : Type 0 where
  pub book : Book
  pub table : List Pool

-- what a call adds of its own: its body and what its caller gives may be anything (the output's content changes no state)
pub record Put : Type 0 where
  pub body : List ℕ
  pub asked : Asked

abbrev pub call_of : State → Put → Call
call_of s p = call s.book s.table p.body p.asked

unfoldable pub after : State → Put → State
after s p = record { book = book_after (call_of s p); table = table_after (call_of s p) }

-- a list of calls: each gets book and table as the one before left them
unfoldable pub after_all : State → List Put → State
after_all s [] = s
after_all s (p ∷ ps) = after_all (after s p) ps

-- what the history is fed by them
unfoldable pub fed : State → List Put → List Fed
fed s [] = []
fed s (p ∷ ps) = record { body = p.body; is_accepted = is_accepted (answer_of (call_of s p)) } ∷ fed (after s p) ps

-- what an accepted opening leaves
abbrev pub opened_state : Values → List Pool → State
opened_state v table = record { book = opened v; table = cleared table }

-- ---- the claim on a book and its table, and on the list that the same calls feed the history
-- the lots that the history holds after a list
abbrev pub lots_brought : Values → List Fed → List Brought
lots_brought v fs = (history v (at_opening v) fs).lots

-- where a pool that a message lists comes from: a lot among those brought, under the message's target and taken off by none, which the message takes off
pub record Source (lots : List Brought) (body : List ℕ) (pool : Fields) : Type 0 where
  pub lot : Brought
  pub brought : Memᴰ lot lots
  pub under_target : is_target (target_of body) lot.id ≡ true
  pub stood : lot.offs ≡ 0
  pub taken : takes_off body lot ≡ true
  pub its_pool : Memᴰ pool (lot_fields lot.lot)

-- demand 3, sentence by sentence
pub record Demand3 (v : Values) (s : State) (fs : List Fed) : Type 0 where
  -- each trade's open par is its opening par less the weights of the lots brought to it and not taken off
  pub history_sum : (t : ℕ) → t < length (trades_of v) → (trade_at (trades_of s.book.values) t).open_par + standing_weight t (lots_brought v fs) ≡ (trade_at (trades_of v) t).par
  -- open par lies between zero and the opening par
  pub bounded : (t : ℕ) → t < length (trades_of v) → (trade_at (trades_of s.book.values) t).open_par ≤ (trade_at (trades_of v) t).par
  -- no lot is taken off twice
  pub once : (h : Brought) → Memᴰ h (lots_brought v fs) → h.offs ≤ 1
  -- every lot that an accepted message takes off was brought by an earlier one and taken off by none between them
  pub taken_stood : (earlier later : List Fed) (f : Fed) → fs ≡ earlier ++ (f ∷ later) → f.is_accepted ≡ true
      → (h : Brought) → Memᴰ h (lots_brought v earlier) → takes_off f.body h ≡ true → h.offs ≡ 0
  -- and every pool that an accepted message lists is of such a lot
  pub listed_brought : (earlier later : List Fed) (f : Fed) → fs ≡ earlier ++ (f ∷ later) → f.is_accepted ≡ true
      → (pool : Fields) → Memᴰ pool (listed f.body) → Source (lots_brought v earlier) f.body pool
  -- standing good millions are those that accepted ONs brought less those that accepted DKs took off
  pub millions : (t : ℕ) → standing_millions t (live_of s.book s.table) + millions_by_dks t (lots_brought v fs) ≡ millions_by_ons t (lots_brought v fs)
