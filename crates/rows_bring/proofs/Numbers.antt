-- A staged terminator says what the pool's own does.
use Rattle.std.specs.Prelude.{Option, Some, None, unwrap_or}
use mathlib.Core.Path.{◌≡◌, refl, ap, ◌∙◌}
use Prim.Native.Nat.{ℕ, ◌+◌, ◌*◌, ◌%◌, ◌≤◌, ◌<◌}
use native.Mathlib.Omega.{arith}
use Rattle.fields.specs.Fields.{read_number}
use Rattle.fields.proofs.Bounds.{read_below}
use Rattle.layout.specs.declared.Detail.{Detail}
use Rattle.terminator.specs.Terminators.{positions, positions_of, terminator_of, one, term}
use Rattle.rows_bring.specs.Staged.{three_digits, terminator_number, number_one, number_term}

module _ (d : Detail) where
  pub three_small : three_digits (read_number d.terminator 1 3) ≤ 1000
  three_small = go (read_number d.terminator 1 3) (read_below d.terminator 1 3)
    where
      go : (f : Option ℕ) → unwrap_or f 0 < 1000 → three_digits f ≤ 1000
      go (Some n) h = omega (arith, h)
      go None h = omega arith

  pub number_one_law : number_one (terminator_number d) ≡ one d
  unfolding terminator_number
  number_one_law = omega (arith, three_small)

  pub number_term_law : number_term (terminator_number d) ≡ term d
  unfolding terminator_number terminator_of positions
  number_term_law =
      let three = three_digits (read_number d.terminator 1 3) in
      let e : (one d * 10000 + three) % 10000 ≡ three = omega (arith, three_small) in
      ap positions e ∙ go (read_number d.terminator 1 3)
    where
      go : (f : Option ℕ) → positions (three_digits f) ≡ positions_of f
      go (Some n) = refl
      go None = refl
