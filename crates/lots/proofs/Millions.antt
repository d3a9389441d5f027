-- The good millions of a message's lots are those of its pools, of which only ends have any, and they are few.
use Rattle.std.proofs.Common.{◌≡◌, refl, ℕ, ◌+◌, ◌*◌, ◌^◌, ◌≤◌, ◌<◌, Bool, true, false, cond, List, [], ◌∷◌, ◌++◌, length, sum_by, arith}
use Rattle.lists.specs.Lists.{sum_of}
use Rattle.lists.proofs.Folds.{fold_sum}
use Rattle.layout.specs.declared.Detail.{Detail}
use Rattle.layout.specs.Details.{details}
use Rattle.layout.proofs.Lengths.{count_max}
use Rattle.layout.proofs.Reader.{length_details}
use Rattle.terminator.specs.Terminators.{is_end, millions_of, term}
use Rattle.terminator.specs.Lots.{lot_millions, lots_from, lots, good_millions}
use Rattle.terminator.proofs.Marks.{middle_none, millions_small}

abbrev pub pool_millions : Detail → ℕ
pool_millions d = millions_of (term d)

millions_from : (ms ds : List Detail) → sum_of lot_millions (lots_from ms ds) ≡ sum_of pool_millions ds
millions_from ms [] = refl
millions_from ms (d ∷ ds) = go (is_end (term d)) refl (millions_from [] ds) (millions_from (ms ++ (d ∷ [])) ds)
  where
    go : (b : Bool) → is_end (term d) ≡ b → sum_of lot_millions (lots_from [] ds) ≡ sum_of pool_millions ds
        → sum_of lot_millions (lots_from (ms ++ (d ∷ [])) ds) ≡ sum_of pool_millions ds
        → sum_of lot_millions (cond b (record { middles = ms; last = d } ∷ lots_from [] ds) (lots_from (ms ++ (d ∷ [])) ds))
        ≡ pool_millions d + sum_of pool_millions ds
    go true e h k = rw h
    go false e h k = omega (arith, middle_none (term d) e, k)

pub millions_sum : (ds : List Detail) → sum_by pool_millions ds ≡ good_millions ds
unfolding good_millions lots
millions_sum ds = omega (arith, fold_sum pool_millions 0 ds, millions_from [] ds)

sum_small : (ds : List Detail) → sum_of pool_millions ds ≤ 99 * length ds
sum_small [] = omega arith
sum_small (d ∷ ds) = omega (arith, millions_small d, sum_small ds)

pub millions_fit : (body : List ℕ) → sum_by pool_millions (details body) < 2 ^ 64
millions_fit body = omega (arith, fold_sum pool_millions 0 (details body), sum_small (details body), length_details body, count_max body)
