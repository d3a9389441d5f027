-- Each listed pool's place as a function of the pool: the first of the target's places with its fields, which is the place that was found.
use Prim.Native.Nat.{ℕ, ◌≤◌, ◌<◌}
use mathlib.Core.Path.{◌≡◌, refl, sym, ap, ◌∙◌}
use mathlib.Core.List.{List}
use mathlib.Core.Bool.{Bool, true, false, cond, ◌&&◌}
use native.Mathlib.Omega.{arith}
use native.Mathlib.Decide.{dec_lt}
use lib.ListN.{length, get_or}
use Rattle.std.specs.List.{position_or_len}
use Rattle.std.proofs.lemmas.List.Sums.{fails_before_first, passes_at_first}
use Rattle.lists.specs.Lists.{tab}
use Rattle.lists.proofs.Tests.{◌∈◌, and_left, and_right, both, clash}
use Rattle.lists.proofs.Tables.{table_of_law}
use Rattle.layout.specs.declared.Detail.{Detail}
use Rattle.layout.specs.Details.{details, pool_count}
use Rattle.layout.proofs.Passes.{pool_of}
use Rattle.book.specs.declared.Pool.{Pool}
use Rattle.book.specs.Records.{Fields, fields_of, live_fields, same_fields, no_pool}
use Rattle.book.specs.Messages.{type_of, target_of, under}
use Rattle.book.specs.Soundness.{in_order, fields_once}
use Rattle.book.proofs.Matched.{fields_equal}
use Rattle.rows_find.specs.declared.Run.{Run}
use Rattle.rows_find.specs.Runs.{run_of}
use Rattle.rows_find.specs.Finding.{lists, Placed}
use Rattle.rows_find.proofs.Ascending.{run_within, run_under, run_only}
use Rattle.rows_find.proofs.Seeking.{record_at}
use Rattle.check_listed.specs.Marks.{Places}
use Rattle.check_listed.specs.Listing.{place_in}
use Rattle.check_listed.proofs.Indexed.{tab_from}
use Rattle.check_listed.proofs.Taken.{same_place}
use Rattle.check_listed.proofs.Whole.{Stands}

-- the first that passes a test stands no later than any that does
first_in : {A : Type 0} (p : A → Bool) (xs : List A) (i : ℕ) (d : A) → i < length xs → p (get_or xs i d) ≡ true
    → (position_or_len p xs ≤ i) × (p (get_or xs (position_or_len p xs) d) ≡ true)
first_in p xs i d h e = go (dec_lt i (position_or_len p xs))
  where
    go : Dec (i < position_or_len p xs) → (position_or_len p xs ≤ i) × (p (get_or xs (position_or_len p xs) d) ≡ true)
    go (yes l) = clash e (fails_before_first p xs i d l)
    go (no l) = (omega (arith, l), passes_at_first p xs d (omega (arith, l, h)))

module _ (body : List ℕ) (rs : List Pool) (ordered : in_order rs ≡ true) (once : fields_once rs ≡ true) where
  abbrev pub at : ℕ → Pool
  at = record_at rs

  pub places_are : rs ≡ tab at (length rs) 0
  places_are = table_of_law no_pool rs (length rs) refl

  pub order_at : in_order (tab at (length rs) 0) ≡ true
  order_at = rw places_are at ordered

  pub once_at : fields_once (tab at (length rs) 0) ≡ true
  once_at = rw places_are at once

  abbrev pub run : Run
  run = run_of (target_of body) rs

  pub run_bound : run.stop ≤ length rs
  run_bound = run_within (target_of body) rs

  pub run_inside : (i : ℕ) → i < length rs → under (target_of body) (at i) ≡ true → (run.start ≤ i) × (i < run.stop)
  run_inside i h u = run_only (target_of body) rs ordered i h u

  pub run_here : (i : ℕ) → run.start ≤ i → i < run.stop → under (target_of body) (at i) ≡ true
  run_here i h l = run_under (target_of body) rs i h l

  -- the first record under the target with given fields
  abbrev is_its : Fields → Pool → Bool
  is_its g r = under (target_of body) r && same_fields (live_fields r) g

  abbrev place_for : Fields → ℕ
  place_for g = position_or_len (is_its g) rs

  -- the place of a listed pool's record
  abbrev pub record_place : Detail → ℕ
  record_place = place_in body rs

  -- the only record with them
  its_place : (g : Fields) (i : ℕ) → i < length rs → is_its g (at i) ≡ true → i ≡ place_for g
  its_place g i h e =
      let (a, b) = first_in (is_its g) rs i no_pool h e in
      let j : ℕ = place_for g in
      let k : j < length rs = omega (arith, a, h) in
      let c : is_its g (at j) ≡ true = b in
      same_place (target_of body) at (length rs) order_at once_at i j h k
      (and_left (under (target_of body) (at i)) (same_fields (live_fields (at i)) g) e)
      (and_left (under (target_of body) (at j)) (same_fields (live_fields (at j)) g) c)
      (fields_equal (live_fields (at i)) g (and_right (under (target_of body) (at i)) (same_fields (live_fields (at i)) g) e)
      ∙ sym (fields_equal (live_fields (at j)) g (and_right (under (target_of body) (at j)) (same_fields (live_fields (at j)) g) c)))

  module _ (cells : List ℕ) (placed : Placed body rs run cells) where
    -- a listed pool's cell
    module _ (i : ℕ) (h : i < pool_count body) (l : lists (type_of body) (pool_of body i) ≡ true) where
      abbrev cell : ℕ
      cell = get_or cells i 0

      cell_live : cell < length rs
      cell_live = omega (arith, (placed.places i h l).1, run_bound)

      cell_under : under (target_of body) (at cell) ≡ true
      cell_under = run_here cell (placed.places i h l).0 (placed.places i h l).1

      cell_fields : same_fields (live_fields (at cell)) (fields_of (pool_of body i)) ≡ true
      cell_fields = (placed.places i h l).2

      cell_place : cell ≡ place_for (fields_of (pool_of body i))
      cell_place =
          its_place (fields_of (pool_of body i)) cell cell_live
          (both (under (target_of body) (at cell)) (same_fields (live_fields (at cell)) (fields_of (pool_of body i))) cell_under cell_fields)

    pub cells_placed : Places record_place body cells
    cells_placed i h = go (lists (type_of body) (pool_of body i)) refl
      where
        go : (b : Bool) → lists (type_of body) (pool_of body i) ≡ b
            → get_or cells i 0 ≡ cond (lists (type_of body) (pool_of body i)) (place_for (fields_of (pool_of body i))) 0
        go true l = cell_place i h l ∙ sym (ap (λ (b : Bool). cond b (place_for (fields_of (pool_of body i))) 0) l)
        go false l = placed.others i h l ∙ sym (ap (λ (b : Bool). cond b (place_for (fields_of (pool_of body i))) 0) l)

    pub pools_stand : (d : Detail) → d ∈ details body → lists (type_of body) d ≡ true → Stands (target_of body) at (length rs) record_place d
    unfolding details
    pools_stand d m l =
        let (i, a, b, e) = tab_from (pool_of body) (pool_count body) 0 d m in
        let h : i < pool_count body = omega (arith, b) in
        let k : lists (type_of body) (pool_of body i) ≡ true = ap (lists (type_of body)) (sym e) ∙ l in
        let r : record_place d ≡ cell i h k = ap record_place e ∙ sym (cells_placed i h) in (
          omega (arith, r, cell_live i h k),
          ap (λ (j : ℕ). under (target_of body) (at j)) r ∙ cell_under i h k,
          ap (λ (j : ℕ). live_fields (at j)) r ∙ fields_equal (live_fields (at (cell i h k))) (fields_of (pool_of body i)) (cell_fields i h k)
              ∙ ap fields_of (sym e),
        )
