-- Demand 3 for the calls themselves: a book that a call opened without refusal, and any run of frame calls on it, refused ones included. What the promise says of
-- definitions it says of what the calls leave; and 42 never meets such a client. Demand 1 of a refusal, for any book and table, stands here too.
use Prim.Native.Nat.{ℕ}
use mathlib.Core.Path.{◌≡◌, sym, ap, ◌∙◌}
use mathlib.Core.List.{List}
use mathlib.Core.Bool.{true, false}
use Rattle.std.specs.Prelude.{Ok}
use lib.ListN.{length}
use Rattle.book.specs.declared.Caller.{Caller}
use Rattle.book.specs.declared.Values.{Values}
use Rattle.book.specs.declared.Book.{Book}
use Rattle.book.specs.declared.Pool.{Pool}
use Rattle.book.specs.Reasons.{is_accepted}
use Rattle.book.specs.Trades.{trades_of}
use Rattle.book.specs.Opening.{opening_fine}
use Rattle.book.specs.Soundness.{Sound}
use Rattle.book.specs.Checks.{asked_by}
use Rattle.book.specs.History.{Fed}
use Rattle.book.specs.Promise.{State, after, opened_state, Demand3}
use Rattle.book.proofs.Demand3.{Trace, done, next, traced, traced_count, refused_keeps}
use Rattle.book.proofs.Undamaged.{traced_sound}
use Rattle.calls.specs.declared.Stepped.{Stepped}
use Rattle.calls.specs.Calls.{Framed, Opens}
use Rattle.calls.proofs.Opening.{passed}
use Rattle.promise.specs.Runs as runs
use Rattle.promise.specs.Runs.{Run}

-- a run of calls is a run of the definitions
pub run_trace : {s s'' : State} {fs : List Fed} → Run s fs s'' → Trace s fs s''
run_trace runs.done = done
run_trace (runs.next {s} {s''} {fs} body caller out r pools out' f rest) =
    next (record { body = body; asked = asked_by caller (length out) }) r.answer f.book f.table f.answer (run_trace rest)

-- demand 1: a call that refuses, on any book and table, changes no trade, no live pool and no message ID
pub calls_refused_keep : (s : State) (body : List ℕ) (caller : Caller) (out : List ℕ) (r : Stepped) (pools : List Pool) (out' : List ℕ) → Framed s.book s.table body caller out r pools out' → is_accepted r.answer ≡ false
    → (r.book.values.trades ≡ s.book.values.trades) × (r.book.values.last_message_id ≡ s.book.values.last_message_id) × (r.book.live ≡ s.book.live) × (pools ≡ s.table)
unfolding after
calls_refused_keep s body caller out r pools out' f n =
    let kept = refused_keeps s (record { body = body; asked = asked_by caller (length out) }) (ap is_accepted (sym f.answer) ∙ n) in (
      ap (λ (b : Book). b.values.trades) f.book ∙ kept.0,
      ap (λ (b : Book). b.values.last_message_id) f.book ∙ kept.1,
      ap (λ (b : Book). b.live) f.book ∙ kept.2,
      f.table ∙ kept.3,
    )

module _ (v : Values) (pools zeros : List Pool) (b : Book) (o : Opens v pools (Ok b) zeros) where
  is_opened : opening_fine v pools ≡ true
  is_opened = (passed v pools zeros b o).0

  abbrev start : State
  start = record { book = b; table = zeros }

  begins : start ≡ opened_state v pools
  begins = let p = passed v pools zeros b o in rw (p.1, p.2)

  module _ (s : State) (fs : List Fed) (run : Run start fs s) where
    from_opening : Trace (opened_state v pools) fs s
    from_opening =
        let t : Trace start fs s = run_trace run in
        rw begins at t

    -- demand 3 of what the calls leave, with the history of the same messages and answers
    pub calls_demand3 : Demand3 v s fs
    calls_demand3 = traced v pools is_opened s fs from_opening

    -- and it is sound, so that 42 never meets them
    pub calls_sound : Sound s.book s.table
    calls_sound = traced_sound v pools is_opened s fs from_opening

    -- its trades are as many as were opened
    pub calls_count : length (trades_of s.book.values) ≡ length (trades_of v)
    calls_count = traced_count v pools is_opened s fs from_opening
