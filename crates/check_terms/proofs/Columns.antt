-- A column against bytes as many as it is wide: they are compared as parts, of which a body that is too short has none.
use mathlib.Core.Path.{◌≡◌, refl, sym, ap, ◌∙◌}
use mathlib.Core.List.{List}
use mathlib.Core.Bool.{Bool, true, false, ◌&&◌}
use Prim.Native.Nat.{ℕ, ◌-◌, ◌≤◌, min}
use native.Mathlib.Omega.{arith}
use lib.ListN.{length, drop, length-take, length-drop}
use lib.Seq.{take_all}
use Rattle.lists.specs.Lists.{within, part, same}
use Rattle.lists.proofs.Parts.{in_within}
use Rattle.lists.proofs.Tests.{clash, same_unlike}
use Rattle.fields.specs.Fields.{same_part}

-- a part that does not stand whole in the list has not as many elements as asked
part_short : (s : List ℕ) (at n : ℕ) → 1 ≤ n → within s at n ≡ false → length (part s at n) ≡ n → ⊥
unfolding part
part_short s at n h e l = clash (in_within s at n (omega (arith, m)) (omega (arith, m))) e
  where
    m : min n (length s - at) ≡ n
    m = sym (length-take n (drop at s) ∙ ap (λ (k : ℕ). min n k) (length-drop at s)) ∙ l

pub column_same : (s : List ℕ) (at n : ℕ) (b : List ℕ) → length b ≡ n → 1 ≤ n → same_part s at b 0 n ≡ same (part s at n) b
unfolding same_part part
column_same s at n b l h = go (within s at n) refl
  where
    whole : part b 0 n ≡ b
    whole = take_all n b (omega arith)

    go : (w : Bool) → within s at n ≡ w → ((w && within b 0 n) && same (part s at n) (part b 0 n)) ≡ same (part s at n) b
    go true e = rw (in_within b 0 n (omega arith) (omega arith), whole)
    go false e = same_unlike (part s at n) b (λ q. part_short s at n h e (q ∙ l))
