-- A list that has f of each element of another in its place is the other mapped by f.
use mathlib.Core.Path.{◌≡◌, sym, ◌∙◌}
use mathlib.Core.List.{List, map}
use Prim.Native.Nat.{ℕ, ◌<◌}
use native.Mathlib.Omega.{arith}
use lib.ListN.{length, get_or}
use Rattle.std.proofs.lemmas.List.{length-map, get_or-map, same_lists}

pub map_is : {A B : Type 0} (f : A → B) (xs : List A) (ys : List B) (d : A) → length ys ≡ length xs
    → ((i : ℕ) (e : B) → i < length xs → get_or ys i e ≡ f (get_or xs i d)) → ys ≡ map f xs
map_is f xs ys d long each =
    same_lists ys (map f xs) (long ∙ sym (length-map xs f)) (λ k e h. let l : k < length xs = omega arith in each k e l ∙ sym (get_or-map f xs k d e l))
