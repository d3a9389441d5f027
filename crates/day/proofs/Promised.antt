-- Demand 3 of a day: what a day leaves of a book that was opened without refusal keeps the promise, with the history of the same calls.
use mathlib.Core.Path.{◌≡◌, ap, ◌∙◌}
use mathlib.Core.List.{List}
use Prim.Native.Nat.{ℕ}
use Rattle.std.specs.Prelude.{Ok}
use Rattle.book.specs.declared.Values.{Values}
use Rattle.book.specs.declared.Book.{Book}
use Rattle.book.specs.declared.Pool.{Pool}
use Rattle.book.specs.Promise.{State, after_all, fed, opened_state, Demand3}
use Rattle.book.proofs.Demand3.{demand3}
use Rattle.calls.specs.Calls.{Opens}
use Rattle.calls.proofs.Opening.{passed}
use Rattle.day.specs.declared.Day.{Day}
use Rattle.day.specs.Tape.{puts_of}
use Rattle.day.specs.Days.{state_of, Passes}

-- of a table that opening leaves as zeros, and the day as left
module _ (v : Values) (pools zeros : List Pool) (b : Book) (opens : Opens v pools (Ok b) zeros) where
  pub begins : state_of b zeros ≡ opened_state v pools
  begins = let p = passed v pools zeros b opens in rw (p.1, p.2)

  pub day_demand3 : (tape : List ℕ) (r : Day) (left : List Pool) → Passes b zeros tape r left → Demand3 v (state_of r.book left) (fed (opened_state v pools) (puts_of tape))
  day_demand3 tape r left d =
      let e : state_of r.book left ≡ after_all (opened_state v pools) (puts_of tape) = d.state ∙ ap (λ (s : State). after_all s (puts_of tape)) begins in
      rw e (demand3 v pools (passed v pools zeros b opens).0 (puts_of tape))
