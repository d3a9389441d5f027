-- A loop that sums what each element of a list says.
use Prim.Native.Nat.{ℕ, ◌+◌}
use mathlib.Core.Path.{◌≡◌}
use mathlib.Core.List.{List, [], ◌∷◌}
use native.Mathlib.Omega.{arith}
use Rattle.lists.specs.Lists.{sum_of, fold}

pub fold_sum : {A : Type 0} (f : A → ℕ) (s : ℕ) (xs : List A) → fold (λ (t : ℕ) (x : A). t + f x) s xs ≡ s + sum_of f xs
fold_sum f s [] = omega arith
fold_sum f s (x ∷ xs) = omega (arith, fold_sum f (s + f x) xs)
