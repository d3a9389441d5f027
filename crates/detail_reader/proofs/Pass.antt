-- A pass over a body by a reader takes in all details: turn by turn, from a reader at the first detail,
-- the state at the end is that of all details of the body.
use Rattle.std.proofs.Common.{◌≡◌, ◌≢◌, refl, ap, ℕ, zero, suc, ◌≤◌, List, length, Option, Some, None, arith}
use Rattle.std.proofs.lemmas.List.{nil_from_length}
use Rattle.std.specs.Option.{option_map_or}
use Rattle.lists.specs.Lists.{fold}
use Rattle.layout.specs.declared.Detail.{Detail}
use Rattle.layout.specs.declared.Step.{Step}
use Rattle.layout.specs.Columns.{header_width}
use Rattle.layout.specs.Details.{next_detail, details, pool_count}
use Rattle.layout.proofs.Reader.{length_details}
use Rattle.detail_reader.specs.Left.{details_from}
use Rattle.detail_reader.proofs.Left.{left_end, left_more, left_all}

module _ {S : Type 0} (f : S → Detail → S) (body : List ℕ) where
  -- the state after so many turns of a reader from a place on, or fewer where it comes to the end:
  -- each takes the detail that it gives into the state, and goes on behind it
  abbrev pub turns : ℕ → S → ℕ → S
  turns zero s at = s
  turns (suc k) s at = option_map_or (λ (step : Step). turns k (f s step.detail) step.next) (next_detail body at) s

  -- as many turns as there are details, or more, take in all that is left
  pub turns_left : (k : ℕ) (s : S) (at : ℕ) → length (details_from body at) ≤ k → turns k s at ≡ fold f s (details_from body at)
  turns_left zero s at h = rw (nil_from_length (details_from body at) (omega arith)) refl
  turns_left (suc k) s at h = go (next_detail body at) refl (λ t place. turns_left k t place)
    where
      go : (r : Option Step) → next_detail body at ≡ r
          → ((t : S) (place : ℕ) → length (details_from body place) ≤ k → turns k t place ≡ fold f t (details_from body place))
          → option_map_or (λ (step : Step). turns k (f s step.detail) step.next) r s ≡ fold f s (details_from body at)
      go None e rest = rw (left_end body at e)
      go (Some step) e rest =
          let l = left_more body at step e in
          rw l (rest (f s step.detail) step.next (omega (arith, ap length l)))

  pub passes : (s₀ : S) → turns (pool_count body) s₀ header_width ≡ fold f s₀ (details body)
  passes s₀ = go (pool_count body) refl
    where
      go : (n : ℕ) → pool_count body ≡ n → turns n s₀ header_width ≡ fold f s₀ (details body)
      go zero e = rw (nil_from_length (details body) (omega (arith, length_details body)))
      go (suc n) e =
          let h : pool_count body ≢ 0 = omega arith in
          rw (← left_all body h) (turns_left (suc n) s₀ header_width (omega (arith, length_details body, ap length (left_all body h))))
