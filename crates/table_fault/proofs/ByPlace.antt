-- Trades looked through by the weights of their places are looked through by the weights of their lots.
use Rattle.std.proofs.Common.{◌≡◌, ℕ, ◌+◌, ◌≤◌, ◌<◌, List, [], ◌∷◌, length, slice_index, refl, ap₂, arith}
use borrow.Author.Tests.{lt-ltb}
use Rattle.book.specs.declared.Trade.{Trade}
use Rattle.book.specs.declared.Pool.{Pool}
use Rattle.book.specs.Records.{trade_weight}
use Rattle.fault.specs.Rules.{test, or_else, each}
use Rattle.fault.specs.Faults.{par_fault}
use Rattle.table_fault.specs.Pars.{makes_par}

pub pars_by_place : (weights : List ℕ) (rs : List Pool) → ((k : ℕ) → k < length weights → slice_index weights k ≡ trade_weight k rs)
    → (i : ℕ) (ts : List Trade) → i + length ts ≤ length weights → each (λ j t. test 161 j (makes_par weights j t)) i ts ≡ each (par_fault rs) i ts
pars_by_place weights rs h i [] l = refl
pars_by_place weights rs h i (t ∷ ts) l =
    ap₂ or_else (rw (lt-ltb i (length weights) (omega arith), h i (omega arith))) (pars_by_place weights rs h (i + 1) ts (omega arith))
