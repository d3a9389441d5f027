-- What is left still gives the answer.
use Rattle.std.proofs.Common.{◌≡◌, ℕ, ◌+◌, List, Option, length}
use Rattle.fault.specs.declared.Fault.{Fault}
use Rattle.fault.specs.Rules.{first_of, Computes}
use Rattle.fault.proofs.first_of.Given as goal

abbrev pub invariant-loop-left : goal.invariant-loop-left
invariant-loop-left g l =
    record {
      room : l.place + length l.left ≡ l.initial.place + length l.initial.left;
      answer : (f : ℕ → _ → List _ → Option Fault) → Computes g.F.Fn l.test (l.initial.place + length l.initial.left) f → first_of f l.place l.left ≡ first_of f l.initial.place l.initial.left;
    }

abbrev pub decreases-loop-left : goal.decreases-loop-left
decreases-loop-left g l = length l.left
