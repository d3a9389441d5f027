-- Staging: the numbers written, those of the pools still to come and the zeros after them are always the whole array.
use mathlib.Core.Path.{◌≡◌, sym, ap, ◌∙◌}
use mathlib.Core.List.{List, [], ◌∷◌, ◌++◌, map, append_assoc}
use Prim.Native.Nat.{ℕ, suc, ◌+◌, ◌<◌}
use native.Mathlib.Nat.{zero-add}
use native.Mathlib.Numerals.{add-one}
use native.Mathlib.Omega.{arith}
use lib.ListN.{length, take, drop, set, replicate, length-map}
use lib.Seq.{take-suc-set, drop-set-lt}
use Rattle.std.proofs.lemmas.List.{drop-replicate, take-append-drop}
use Rattle.layout.specs.declared.Detail.{Detail}
use Rattle.layout.specs.Details.{pools_max}
use Rattle.terminator.specs.Lots.{current_cents}
use Rattle.rows_bring.specs.declared.Staged.{Staged}
use Rattle.rows_bring.specs.Staged.{padded, terminator_number, staged}

module _ (f : Detail → ℕ) where
  -- the first i numbers of an array, those of the pools to come, and what stands after them
  abbrev pub staging : List ℕ → ℕ → List Detail → List ℕ
  staging xs i left = take i xs ++ (map f left ++ drop (i + length left) xs)

  pub staging_none : (ds : List Detail) → staging (replicate pools_max 0) 0 ds ≡ padded (map f ds)
  staging_none ds =
      ap (λ (ys : List ℕ). map f ds ++ ys)
      (ap (λ (n : ℕ). drop {A = ℕ} n (replicate pools_max 0)) (zero-add (length ds) ∙ sym (length-map ds f)) ∙ drop-replicate (length (map f ds)) pools_max 0)

  pub staging_more : (xs : List ℕ) (i : ℕ) (d : Detail) (left : List Detail) → i < length xs → staging (set xs i (f d)) (i + 1) left ≡ staging xs i (d ∷ left)
  staging_more xs i d left h =
      let n : i + 1 + length left ≡ i + suc (length left) = omega arith in
      rw (drop-set-lt (i + 1 + length left) xs i (f d) (omega arith), n, add-one, take-suc-set xs i (f d) h) (append_assoc (take i xs) (f d ∷ []) (map f left ++ drop (i + suc (length left)) xs))

  pub staging_done : (xs : List ℕ) (i : ℕ) (left : List Detail) → left ≡ [] → staging xs i left ≡ xs
  staging_done xs i left e =
      let n : i + 0 ≡ i = omega arith in
      rw (e, n) (take-append-drop i xs)

pub staged_is : (ds : List Detail) (faces terminators : List ℕ) → faces ≡ padded (map current_cents ds) → terminators ≡ padded (map terminator_number ds)
    → ◌≡◌ {A = Staged} (record { faces = faces; terminators = terminators }) (staged ds)
unfolding staged
staged_is ds faces terminators f t = rw (f, t)
