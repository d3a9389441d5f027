-- Words joined bit by bit are below a power of two exactly where each of them is: none is above the join, and a join needs no more bits than they do.
use mathlib.Core.Path.{◌≡◌, refl, ap, ◌∙◌}
use mathlib.Core.Bool.{Bool, true, false, ◌&&◌, and_assoc}
use mathlib.Core.List.{List, [], ◌∷◌}
use Prim.Native.Nat.{ℕ, ◌+◌, ◌^◌, ◌≤◌}
use native.Mathlib.Nat.{one-le-pow}
use native.Mathlib.Omega.{arith}
use lib.Bits.{bit_and, bit_or, and_le_l, and_le_r, or_lt, or_add_and}
use lib.Dec.{ltb}
use borrow.Author.Tests.{ltb-true, ltb-false, lt-ltb, le-ltb}
use Rattle.std.specs.List.{fold}
use Rattle.lists.specs.Lists.{all}
use Rattle.image.specs.Images.{is_byte, is_number}

abbrev below : ℕ → ℕ → Bool
below k w = ltb w (2 ^ k)

or_least : (a b : ℕ) → (a ≤ bit_or a b) × (b ≤ bit_or a b)
or_least a b = go (bit_or a b) (bit_and a b) (or_add_and a b) (and_le_l a b) (and_le_r a b)
  where
    go : (x y : ℕ) → x + y ≡ a + b → y ≤ a → y ≤ b → (a ≤ x) × (b ≤ x)
    go x y e l r = (omega arith, omega arith)

or_below : (k a b : ℕ) → below k (bit_or a b) ≡ (below k a && below k b)
or_below k a b = go (below k a) (below k b) refl refl
  where
    least : (a ≤ bit_or a b) × (b ≤ bit_or a b)
    least = or_least a b

    go : (p q : Bool) → below k a ≡ p → below k b ≡ q → below k (bit_or a b) ≡ (p && q)
    go true true e f = lt-ltb (bit_or a b) (2 ^ k) (or_lt k a b (ltb-true a (2 ^ k) e) (ltb-true b (2 ^ k) f))
    go true false e f = le-ltb (bit_or a b) (2 ^ k) (omega (arith, least.1, ltb-false b (2 ^ k) f))
    go false q e f = le-ltb (bit_or a b) (2 ^ k) (omega (arith, least.0, ltb-false a (2 ^ k) e))

joined_from : (k a : ℕ) (ws : List ℕ) → below k (fold bit_or a ws) ≡ (below k a && all (below k) ws)
joined_from k a [] = go (below k a)
  where
    go : (b : Bool) → b ≡ (b && true)
    go true = refl
    go false = refl
joined_from k a (w ∷ ws) = joined_from k (bit_or a w) ws ∙ ap (λ (b : Bool). b && all (below k) ws) (or_below k a w) ∙ and_assoc (below k a) (below k w) (all (below k) ws)

joined : (k : ℕ) (ws : List ℕ) → below k (fold bit_or 0 ws) ≡ all (below k) ws
joined k ws = joined_from k 0 ws ∙ ap (λ (b : Bool). b && all (below k) ws) (lt-ltb 0 (2 ^ k) (omega (arith, one-le-pow k 2 (omega arith))))

-- words are bytes where their join is one
pub bytes_joined : (ws : List ℕ) → ltb (fold bit_or 0 ws) 256 ≡ all is_byte ws
bytes_joined = joined 8

-- and numbers of 32 bits
pub numbers_joined : (ws : List ℕ) → ltb (fold bit_or 0 ws) 4294967296 ≡ all is_number ws
numbers_joined = joined 32
