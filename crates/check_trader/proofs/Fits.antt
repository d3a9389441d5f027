-- Number 40: what a table holds.
use Prim.Native.Nat.{ℕ, ◌+◌, ◌-◌, ◌≤◌}
use native.Mathlib.Omega.{arith}
use mathlib.Core.Path.{◌≡◌, sym, ap, ◌∙◌}
use mathlib.Core.List.{List}
use mathlib.Core.Bool.{true, false}
use lib.ListN.{length}
use lib.Dec.{leb}
use Rattle.lists.specs.Lists.{keep}
use Rattle.layout.specs.Details.{details, pool_count}
use Rattle.layout.proofs.Reader.{length_details}
use Rattle.terminator.specs.Terminators.{is_canceled, is_replacement}
use Rattle.terminator.specs.Lots.{formed_for, replacement_count}
use Rattle.faces.specs.Faces.{new_pools}
use Rattle.faces.proofs.NewPools.{on_new, cc_new}
use Rattle.book.proofs.ListLaws.{length_keep}

-- no more replacements than pools
pub replacements_few : (body : List ℕ) → replacement_count (details body) ≤ pool_count body
unfolding replacement_count
replacements_few body = omega (arith, length_keep is_replacement (details body), length_details body)

module _ (body : List ℕ) (live records n : ℕ) (en : n ≡ pool_count body) where
  -- a CC frees the records of the pools that it takes off
  pub fits_cc : (new : ℕ) → new ≡ replacement_count (details body) → formed_for true (details body) ≡ true
      → leb (live + new) (records + (n - new)) ≡ leb (live + length (new_pools (details body))) (records + length (keep is_canceled (details body)))
  fits_cc new er f =
      let e : new ≡ length (new_pools (details body)) = er ∙ cc_new (details body) f in
      let c : n - new ≡ length (keep is_canceled (details body)) = omega (arith, e, en, length_keep is_canceled (details body), length_details body) in
      rw (c, e)

  -- all pools of an ON are new
  pub fits_on : formed_for false (details body) ≡ true
      → leb (live + n) records ≡ leb (live + length (new_pools (details body))) (records + 0)
  fits_on f =
      let e : n ≡ length (new_pools (details body)) = en ∙ sym (length_details body) ∙ ap length (sym (on_new (details body) f)) in
      rw (e, add_nothing records)
    where
      add_nothing : (k : ℕ) → k + 0 ≡ k
      add_nothing k = omega arith
