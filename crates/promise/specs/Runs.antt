-- A client's run of frame calls: each gets book and table as the one before left them, and is known by its contract alone.
use Rattle.std.specs.Prelude.{ℕ, List, [], ◌∷◌}
use Rattle.book.specs.declared.Caller.{Caller}
use Rattle.book.specs.declared.Pool.{Pool}
use Rattle.book.specs.Reasons.{is_accepted}
use Rattle.book.specs.History.{Fed}
use Rattle.book.specs.Promise.{State}
use Rattle.calls.specs.declared.Stepped.{Stepped}
use Rattle.calls.specs.Calls.{Framed}

-- calls one after another, and what a history is fed by them
pub data Run : State → List Fed → State → Type 0 where
  done : {s : State} → Run s [] s
  next : {s s'' : State} {fs : List Fed} (body : List ℕ) (caller : Caller) (out : List ℕ) (r : Stepped) (pools : List Pool) (out' : List ℕ)
      → Framed s.book s.table body caller out r pools out'
      → Run (record { book = r.book; table = pools }) fs s''
      → Run s (record { body = body; is_accepted = is_accepted r.answer } ∷ fs) s''
