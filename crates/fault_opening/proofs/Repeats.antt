-- Trades that are looked through for an ID that stands again are looked through as their IDs are.
use mathlib.Core.Path.{◌≡◌, refl}
use mathlib.Core.List.{List, [], ◌∷◌, map}
use mathlib.Core.Bool.{not}
use Prim.Native.Nat.{ℕ, ◌+◌}
use Rattle.std.specs.Prelude.{Option}
use Rattle.lists.specs.Lists.{same, any}
use Rattle.book.specs.declared.Trade.{Trade}
use Rattle.book.specs.Trades.{trade_name}
use Rattle.check_opening.proofs.Names.{any_map}
use Rattle.fault.specs.declared.Fault.{Fault}
use Rattle.fault.specs.Rules.{test, first_of}
use Rattle.fault.specs.Faults.{names_fault}

-- rule 130 of a trade and those after it
abbrev pub repeats : ℕ → Trade → List Trade → Option Fault
repeats i t ts = test 130 i (not (any (λ (other : Trade). same (trade_name t) (trade_name other)) ts))

pub repeats_is : (i : ℕ) (ts : List Trade) → first_of repeats i ts ≡ names_fault i (map trade_name ts)
repeats_is i [] = refl
repeats_is i (t ∷ ts) = rw (any_map (same (trade_name t)) trade_name ts, repeats_is (i + 1) ts)
