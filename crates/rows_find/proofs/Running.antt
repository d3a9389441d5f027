-- The run from its two ends; a target that is no number has no records.
use Rattle.std.specs.Prelude.{None, Some}
use mathlib.Core.Path.{◌≡◌, refl, ap, ◌∙◌}
use mathlib.Core.List.{List, [], ◌∷◌}
use Prim.Native.Nat.{ℕ, suc, ◌+◌, ◌-◌}
use native.Mathlib.Numerals.{one-add}
use native.Mathlib.Nat.{add-zero}
use lib.ListN.{length, take, drop}
use lib.Seq.{drop-length}
use lib.Dec.{eqb}
use Rattle.std.proofs.lemmas.List.{take_rest}
use Rattle.std.specs.List.{position_or_len, prefix_len}
use Rattle.book.specs.declared.Pool.{Pool}
use Rattle.book.specs.Messages.{under}
use Rattle.rows_find.specs.declared.Run.{Run}
use Rattle.rows_find.specs.Runs.{run_of}

none_under : (rs : List Pool) → position_or_len (under None) rs ≡ length rs
none_under [] = refl
none_under (r ∷ rs) = rw one-add (ap suc (none_under rs))

pub run_none : (rs : List Pool) → ◌≡◌ {A = Run} (record { start = length rs; stop = length rs }) (run_of None rs)
unfolding run_of
run_none rs = rw (none_under rs, drop-length rs, add-zero (length rs))

pub run_found : (id : ℕ) (rs : List Pool) (a b : ℕ) → a ≡ position_or_len (λ (p : Pool). eqb p.message id) rs
    → b ≡ prefix_len (λ (p : Pool). eqb p.message id) (take (length rs - a) (drop a rs))
    → ◌≡◌ {A = Run} (record { start = a; stop = a + b }) (run_of (Some id) rs)
unfolding run_of
run_found id rs a b ea eb = rw (eb ∙ ap (prefix_len (λ (p : Pool). eqb p.message id)) (take_rest rs a), ea)
