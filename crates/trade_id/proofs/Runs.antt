-- The run of an ID: one that does not end within the bytes of the longest ID and its "=" is too long.
use Rattle.std.proofs.Common.{◌≡◌, refl, sym, ℕ, zero, suc, ◌+◌, ◌<◌, List, [], ◌∷◌, take, ◌==◌, arith}
use Rattle.std.specs.List.{position_from}
use Rattle.trade_id.specs.declared.TradeId.TheVariants.{Broken}
use Rattle.trade_id.specs.SpecialInstructions.{equals_sign, id_length_max, until_equals, whole_or}

module _ (place : ℕ) where
  too_long : (i : ℕ) (xs : List ℕ) → id_length_max < i → whole_or place (position_from (λ b. b == equals_sign) i xs) ≡ Broken
  too_long i [] h = refl
  too_long i (x ∷ xs) h = grind (arith, too_long (i + 1) xs)

  seen : (n i : ℕ) (xs : List ℕ) → i + n ≡ id_length_max + 1
      → whole_or place (position_from (λ b. b == equals_sign) i (take n xs)) ≡ whole_or place (position_from (λ b. b == equals_sign) i xs)
  seen zero i xs h = grind (arith, too_long i xs)
  seen (suc n) i [] h = refl
  seen (suc n) i (x ∷ xs) h = grind (arith, seen n (i + 1) xs)

  pub front_is_enough : (xs : List ℕ) → whole_or place (until_equals xs) ≡ whole_or place (until_equals (take (id_length_max + 1) xs))
  front_is_enough xs = sym (seen (id_length_max + 1) 0 xs refl)
