-- The trader's part of the checks (01, "The trader" and number 40), and what a decision holds where all of them pass.
use Rattle.std.specs.Prelude.{ℕ, ◌≤◌, ◌<◌, List, true, cond, not, ◌≡◌, length, get_or, eqb, Option, is_some, unwrap_or, Result, Ok, Err, IfOk}
use Rattle.lists.specs.Lists.{any}
use Rattle.book.specs.declared.Book.{Book}
use Rattle.book.specs.declared.Pool.{Pool}
use Rattle.book.specs.declared.Reason.{Reason}
use Rattle.book.specs.Reasons.{Verdict}
use Rattle.book.specs.Dues.{due_weight}
use Rattle.book.specs.Records.{no_pool, trade_weight}
use Rattle.layout.specs.Details.{details}
use Rattle.terminator.specs.Lots.{formed_for}
use Rattle.book.specs.Messages.{type_of, target_of, under, listed, brought}
use Rattle.book.specs.Soundness.{is_sound}
use Rattle.book.specs.Checks.{Call, Check, live, trades, first_failing, target_trade, trade_due, dues, is_taken, taken}
use Rattle.message_type.specs.Questions.{is_cc, brings_lots}
use Rattle.check_listed.specs.Listing.{marks_taken}
use Rattle.check_trader.specs.declared.Decision.{Decision}

-- what is known when the trader's turn comes: 42 has passed, and 10, 19 and 20, so that an ON and a CC bring some lot
pub record Ready (book : Book) (ps : List Pool) (body : List ℕ) : Type 0 where
  pub sound : is_sound book ps ≡ true
  pub formed : brings_lots (type_of body) ≡ true → formed_for (is_cc (type_of body)) (details body) ≡ true
  pub some : brings_lots (type_of body) ≡ true → 1 ≤ length (brought body)

-- the trade of the target's live pools, exactly where it has some
pub record Targets (body : List ℕ) (rs : List Pool) (t : Option ℕ) : Type 0 where
  pub there : is_some t ≡ any (under (target_of body)) rs
  pub trade : unwrap_or t 0 ≡ target_trade body rs

-- what moves where all checks pass: the one trade of its lots, what that loses and gets, where no other has anything, and the marks of what is taken
-- off, one on each live record that is
pub record Moves (c : Call) (d : Decision) : Type 0 where
  pub trade : d.trade ≡ trade_due c.body (trades c) (live c)
  pub off : (u : ℕ) → trade_weight u (taken c) ≡ cond (eqb d.trade u) d.off 0
  pub brought : (u : ℕ) → due_weight u (dues c) ≡ cond (eqb d.trade u) d.brought 0
  pub marks : d.marks ≡ marks_taken c.body (live c)
  pub marked : (i : ℕ) → i < length (live c) → eqb (get_or d.marks i 0) 0 ≡ not (is_taken (target_of c.body) (listed c.body) (get_or (live c) i no_pool))

-- what a decision says: that all pass, or which fails first
abbrev pub verdict_of : Result Decision Reason → Verdict
verdict_of (Ok d) = Ok tt
verdict_of (Err r) = Err r

-- a decision by some checks: the first of them that fails, or what moves
pub record DecidedBy (ks : List Check) (c : Call) (r : Result Decision Reason) : Type 0 where
  pub verdict : verdict_of r ≡ first_failing ks c
  pub moves : IfOk r (Moves c)
