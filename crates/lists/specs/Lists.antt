-- Lists: parts of them, lists made by a function of the index, tests, sums and states over them.
use Rattle.std.specs.Prelude.{ℕ, zero, suc, ◌+◌, ◌-◌, List, [], ◌∷◌, ◌++◌, Bool, cond, ◌&&◌, length, take, drop, leb}
-- the library's words: whether some element, and whether every element, passes a test; the elements that pass it; the state after the elements are taken in, from the first to the last; whether two lists of numbers are equal
pub use Rattle.std.specs.List.{list_any as any, list_all as all, filter as keep, fold}
pub use Rattle.std.specs.Prelude.{bytes_eq as same}

-- whether the n elements from at all stand in the list
unfoldable pub within : {A : Type 0} → List A → ℕ → ℕ → Bool
within s at n = leb at (length s) && leb n (length s - at)

-- the n elements from at
unfoldable pub part : {A : Type 0} → List A → ℕ → ℕ → List A
part s at n = take n (drop at s)

-- the list with xs from at on, or the list itself where xs does not fit there
unfoldable pub pasted : {A : Type 0} → List A → ℕ → List A → List A
pasted out at xs = cond (within out at (length xs)) (take at out ++ (xs ++ drop (at + length xs) out)) out

-- f i, f (i + 1) and so on, n of them
abbrev pub tab : {A : Type 0} → (ℕ → A) → ℕ → ℕ → List A
tab f zero i = []
tab f (suc n) i = f i ∷ tab f n (i + 1)

-- whether a number lies from low to high
abbrev pub between : ℕ → ℕ → ℕ → Bool
between low high n = leb low n && leb n high

-- the sum of f over the elements
abbrev pub sum_of : {A : Type 0} → (A → ℕ) → List A → ℕ
sum_of f [] = 0
sum_of f (x ∷ xs) = f x + sum_of f xs
