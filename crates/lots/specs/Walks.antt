-- The walk of check 19 over a message's pools: what a private function promises. The check itself is `formed_for` of terminator.
use Rattle.std.specs.Prelude.{ℕ, Option, Some, None, Bool, true, cond, not, ◌&&◌, eqb}
use Rattle.std.specs.Bool.{beq}
use Rattle.layout.specs.declared.Detail.{Detail}
use Rattle.terminator.specs.Terminators.{is_end, is_wrong, is_bad, one, term}
use Rattle.terminator.specs.Lots.{first_on, first_cc}
use Rattle.lots.specs.declared.Begun.{Begun}
use Rattle.lots.specs.declared.Walk.{Walk}

-- position one as the type asks
abbrev pub first_of : Bool → ℕ → Bool
first_of cc = cond cc first_cc first_on

-- the lot that a pool stands in
abbrev pub lot_here : Detail → Begun
lot_here d = record { one = one d; bad = is_bad (term d) }

-- whether a pool goes on with the lot that is begun
abbrev pub follows : Option Begun → Detail → Bool
follows None d = true
follows (Some lot) d = eqb lot.one (one d) && beq lot.bad (is_bad (term d))

-- 19: the walk after one more pool
abbrev pub walk_on : Bool → Walk → Detail → Walk
walk_on cc w d =
    record {
      formed = w.formed && follows w.begun d && first_of cc (one d) && not (is_wrong (term d));
      begun = cond (is_end (term d)) None (Some (lot_here d));
    }
