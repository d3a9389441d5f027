-- The lot that begins at a pool: the pools passed are its middles, and only their number and the sum of their faces have to be known.
use Rattle.std.proofs.Common.{◌≡◌, refl, ℕ, ◌+◌, ◌≤◌, ◌<◌, Option, Some, None, Bool, true, false, cond, List, [], ◌∷◌, ◌++◌, length, drop, arith, length-append}
use Rattle.lists.specs.Lists.{sum_of}
use Rattle.lists.proofs.Tests.{sum_append}
use Rattle.layout.specs.declared.Detail.{Detail}
use Rattle.layout.specs.Details.{details, pool_count}
use Rattle.layout.proofs.Passes.{pool_of}
use Rattle.layout.proofs.Reader.{details_turn, details_end}
use Rattle.layout.proofs.Lengths.{count_max}
use Rattle.terminator.proofs.Found.{cents_small}
use Rattle.terminator.specs.declared.LotHead.{LotHead}
use Rattle.terminator.specs.Terminators.{is_end, term}
use Rattle.terminator.specs.Lots.{lots_from, lots, current_cents}
use Rattle.terminator.specs.Reading.{lot_ended, first_lot}

-- the lot that the first end among some pools ends, where the pool i is the first of them and faces is the sum of those before it
abbrev pub seek : ℕ → ℕ → ℕ → List Detail → Option LotHead
seek first i faces [] = None
seek first i faces (d ∷ ds) = cond (is_end (term d)) (Some (lot_ended d first i (faces + current_cents d))) (seek first (i + 1) (faces + current_cents d) ds)

sought : (first i faces : ℕ) (ms ds : List Detail)
    → i ≡ first + length ms → faces ≡ sum_of current_cents ms → seek first i faces ds ≡ first_lot first (lots_from ms ds)
sought first i faces ms [] ei ef = refl
sought first i faces ms (d ∷ ds) ei ef =
    go (is_end (term d)) (sought first (i + 1) (faces + current_cents d) (ms ++ (d ∷ [])) ds (omega (arith, length-append ms (d ∷ []))) sum)
  where
    sum : faces + current_cents d ≡ sum_of current_cents (ms ++ (d ∷ []))
    sum = omega (arith, sum_append current_cents ms (d ∷ []))

    go : (b : Bool) → seek first (i + 1) (faces + current_cents d) ds ≡ first_lot first (lots_from (ms ++ (d ∷ [])) ds)
        → cond b (Some (lot_ended d first i (faces + current_cents d))) (seek first (i + 1) (faces + current_cents d) ds)
        ≡ first_lot first (cond b (record { middles = ms; last = d } ∷ lots_from [] ds) (lots_from (ms ++ (d ∷ [])) ds))
    go true h = rw (← ei, sum)
    go false h = h

-- before the first pool is passed
pub seek_start : (first : ℕ) (ds : List Detail) → seek first first 0 ds ≡ first_lot first (lots ds)
unfolding lots
seek_start first ds = sought first first 0 [] ds (omega arith) refl

module _ (body : List ℕ) (first i faces : ℕ) where
  -- one pool more
  pub seek_turn : i < pool_count body → seek first i faces (drop i (details body))
      ≡ cond (is_end (term (pool_of body i)))
      (Some (lot_ended (pool_of body i) first i (faces + current_cents (pool_of body i))))
      (seek first (i + 1) (faces + current_cents (pool_of body i)) (drop (i + 1) (details body)))
  seek_turn h = rw (details_turn body i h)

  pub seek_end : pool_count body ≤ i → seek first i faces (drop i (details body)) ≡ None
  seek_end h = rw (details_end body i h)

-- what a loop that seeks the lot needs
pub ruleset seeking = (seek_start, seek_turn, seek_end, cents_small, count_max)
