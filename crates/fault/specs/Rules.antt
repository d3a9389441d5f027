-- Rules in their order: each is a number, the place that it is about and a test; the first whose test fails is named, and nothing where all pass.
use Rattle.std.specs.Prelude.{◌≡◌, ℕ, ◌+◌, ◌<◌, List, [], ◌∷◌, Bool, cond, Option, Some, None, fold}
use denote.Ref.{Bor}
use denote.Param.Members.{Shared}
use Rattle.fault.specs.declared.Fault.{Fault}
-- the library's words: the first of two that is broken, and whether nothing is broken
pub use Rattle.std.specs.Option.{option_or as or_else}
pub use Rattle.std.specs.Prelude.{is_none as is_sound}

-- a rule by its number, the trade, holiday or record that it is about, and its test
unfoldable pub test : ℕ → ℕ → Bool → Option Fault
test rule place passes = cond passes None (Some (record { rule = rule; place = place }))

-- the first of many
abbrev pub first : List (Option Fault) → Option Fault
first = fold or_else None

-- the first of a list's elements that breaks a rule: the test of each takes its place, which is counted on from a number, the element and the elements after it
abbrev pub first_of : {A : Type 0} → (ℕ → A → List A → Option Fault) → ℕ → List A → Option Fault
first_of f i [] = None
first_of f i (x ∷ xs) = or_else (f i x xs) (first_of f (i + 1) xs)

-- the same, where the test takes no element after
abbrev pub each : {A : Type 0} → (ℕ → A → Option Fault) → ℕ → List A → Option Fault
each f = first_of (λ i x xs. f i x)

-- what a test gives, when it is called below an end, is what f says of the place, the element and the elements after it
pub record Computes {A F : Type 0} (calls : Shared F (ℕ × (Bor A × (Bor (List A) × Unit {0}))) (Option Fault)) (test : F) (end : ℕ) (f : ℕ → A → List A → Option Fault) : Type 0 where
  pub at : (i : ℕ) (x : Bor A) (xs : Bor (List A)) (found : Option Fault) → i < end → calls.post test (i, (x, (xs, tt))) found → found ≡ f i x.now xs.now
