-- The detail reader: it gives the details one after another, and all of them are read.
use mathlib.Core.Path.{◌≡◌, sym, ap, ◌∙◌}
use mathlib.Core.List.{List, [], ◌∷◌}
use Prim.Native.Nat.{ℕ, ◌+◌, ◌-◌, ◌≤◌, ◌<◌}
use native.Mathlib.Omega.{arith}
use lib.ListN.{length, drop}
use Rattle.std.specs.Prelude.{Some, None}
use Rattle.lists.specs.Lists.{within, tab}
use Rattle.lists.proofs.Parts.{in_within}
use Rattle.lists.proofs.Tables.{length_tab, drop_tab, tab_turn, tab_end}
use Rattle.layout.specs.Columns.{detail_width}
use Rattle.layout.specs.Details.{detail_at, next_detail, details, pool_count}
use Rattle.layout.proofs.Passes.{pool_of}
use borrow.Author.Tests.{tests}

module _ (body : List ℕ) (place : ℕ) where
  pub at_end : length body - place < detail_width → None ≡ next_detail body place
  unfolding next_detail within
  at_end h = grind (arith, tests)

  pub at_detail : detail_width ≤ length body - place → Some (record { detail = detail_at body place; next = place + detail_width }) ≡ next_detail body place
  unfolding next_detail
  at_detail h = rw (in_within body place detail_width (omega arith) (omega arith))

-- what is left of the details at i
pub details_left : (body : List ℕ) (i : ℕ) → drop i (details body) ≡ tab (pool_of body) (pool_count body - i) i
unfolding details
details_left body i = drop_tab (pool_of body) i (pool_count body) 0 ∙ ap (tab (pool_of body) (pool_count body - i)) (omega arith)

pub length_details : (body : List ℕ) → length (details body) ≡ pool_count body
unfolding details
length_details body = length_tab (pool_of body) (pool_count body) 0

-- what is left starts with the pool there, and at the end nothing is left
module _ (body : List ℕ) (i : ℕ) where
  pub details_turn : i < pool_count body → drop i (details body) ≡ pool_of body i ∷ drop (i + 1) (details body)
  details_turn h = details_left body i ∙ tab_turn (pool_of body) (pool_count body) i h ∙ ap (λ l. pool_of body i ∷ l) (sym (details_left body (i + 1)))

  pub details_end : pool_count body ≤ i → drop i (details body) ≡ []
  details_end h = details_left body i ∙ tab_end (pool_of body) (pool_count body) i h
