-- The weight of marked records: a loop that adds the share of each, and what the marks say of a test.
use mathlib.Core.Path.{◌≡◌, refl, sym, ap, ◌∙◌}
use mathlib.Core.List.{List, [], ◌∷◌}
use mathlib.Core.Bool.{Bool, true, false, cond, not, ◌&&◌, true≢false}
use Prim.Native.Nat.{ℕ, suc, ◌+◌, ◌*◌, ◌≤◌, ◌<◌}
use native.Mathlib.Omega.{arith}
use lib.ListN.{length, get_or}
use lib.Dec.{eqb}
use borrow.Author.Tests.{eq-eqb, ne_eqb}
use Rattle.lists.specs.Lists.{keep}
use Rattle.book.specs.declared.Pool.{Pool}
use Rattle.book.specs.Opening.{records_max, eleven_digits_max}
use Rattle.book.specs.Records.{no_pool}
use Rattle.rows.specs.Closed.{unmarked}
use Rattle.rows.specs.Runs.{run_sum, weight_share}
use Rattle.rows_find.specs.Marks.{marked, Weighable}

marked_nil : (ms : List ℕ) → marked ms [] ≡ []
marked_nil [] = refl
marked_nil (m ∷ ms) = refl

-- ---- the loop: what is left to weigh, with what was weighed, makes up the weight
-- a sum of so many faces at most, which with what is left makes up the weight
pub record Weighed (whole : List Pool) (marks : List ℕ) (rs : List Pool) (ms : List ℕ) (sum message ordinal : ℕ) : Type 0 where
  pub left : Weighable rs ms
  pub small : sum + length rs * eleven_digits_max ≤ records_max * eleven_digits_max
  pub weighed : sum + run_sum weight_share message ordinal (marked ms rs) ≡ run_sum weight_share 0 0 (marked marks whole)

pub weighed_none : (rs : List Pool) (ms : List ℕ) → Weighable rs ms → Weighed rs ms rs ms 0 0 0
weighed_none rs ms w = record { left = w; small = omega (arith, w.few); weighed = omega arith }

module _ (whole : List Pool) (marks ms : List ℕ) (sum message ordinal : ℕ) where
  pub weighed_done : (rs : List Pool) → Weighed whole marks rs ms sum message ordinal → length rs ≡ 0 → sum ≡ run_sum weight_share 0 0 (marked marks whole)
  weighed_done [] w e = omega (arith, w.weighed, ap (run_sum weight_share message ordinal) (marked_nil ms))
  weighed_done (r ∷ rs) w e = absurd (omega (arith, e))

module _ (whole : List Pool) (marks : List ℕ) (r : Pool) (rs : List Pool) (m : ℕ) (ms : List ℕ) (sum message ordinal : ℕ) (w : Weighed whole marks (r ∷ rs) (m ∷ ms) sum message ordinal) where
  rest : Weighable rs ms
  rest = record {
    marks = omega (arith, w.left.marks);
    few = omega (arith, w.left.few);
    faces = λ (i : ℕ) h. w.left.faces (suc i) (omega (arith, h));
    millions = λ (i : ℕ) h. w.left.millions (suc i) (omega (arith, h));
  }

  pub weighed_skip : m ≡ 0 → Weighed whole marks rs ms sum message ordinal
  weighed_skip e = record { left = rest; small = omega (arith, w.small); weighed = rw (eq-eqb m 0 e) at w.weighed }

  pub weighed_more : (m ≡ 0 → ⊥) → (s : ℕ) → s ≡ weight_share (not (eqb r.message message && eqb r.ordinal ordinal)) r → s ≤ eleven_digits_max
      → Weighed whole marks rs ms (sum + s) r.message r.ordinal
  weighed_more e s is most = record {
    left = rest;
    small = omega (arith, w.small, most);
    weighed = let v : sum + run_sum weight_share message ordinal (r ∷ marked ms rs) ≡ run_sum weight_share 0 0 (marked marks whole) = rw (ne_eqb m 0 e) at w.weighed in omega (arith, v, is);
  }

-- ---- marks that tell a test
module _ (p : Pool → Bool) where
  -- every record has a mark, and it is 0 exactly where the record fails the test
  abbrev pub Tells : List ℕ → List Pool → Type 0
  Tells ms rs = (length rs ≤ length ms) × ((i : ℕ) → i < length rs → eqb (get_or ms i 0) 0 ≡ not (p (get_or rs i no_pool)))

  tells_tail : (m : ℕ) (ms : List ℕ) (r : Pool) (rs : List Pool) → Tells (m ∷ ms) (r ∷ rs) → Tells ms rs
  tells_tail m ms r rs (l, t) = (omega (arith, l), λ (i : ℕ) h. t (suc i) (omega (arith, h)))

  pub marked_keep : (ms : List ℕ) (rs : List Pool) → Tells ms rs → marked ms rs ≡ keep p rs
  marked_keep [] [] t = refl
  marked_keep [] (r ∷ rs) t = absurd (omega (arith, t.0))
  marked_keep (m ∷ ms) [] t = refl
  marked_keep (m ∷ ms) (r ∷ rs) t = go (eqb m 0) (p r) (t.1 0 (omega arith)) (marked_keep ms rs (tells_tail m ms r rs t))
    where
      go : (b c : Bool) → b ≡ not c → marked ms rs ≡ keep p rs → cond b (marked ms rs) (r ∷ marked ms rs) ≡ cond c (r ∷ keep p rs) (keep p rs)
      go true true e h = absurd (true≢false e)
      go true false e h = h
      go false true e h = ap (λ (l : List Pool). r ∷ l) h
      go false false e h = absurd (true≢false (sym e))

  pub unmarked_keep : (ms : List ℕ) (rs : List Pool) → Tells ms rs → unmarked ms rs ≡ keep (λ (r : Pool). not (p r)) rs
  unmarked_keep [] [] t = refl
  unmarked_keep [] (r ∷ rs) t = absurd (omega (arith, t.0))
  unmarked_keep (m ∷ ms) [] t = refl
  unmarked_keep (m ∷ ms) (r ∷ rs) t =
      ap (λ (b : Bool). cond b (r ∷ unmarked ms rs) (unmarked ms rs)) (t.1 0 (omega arith))
      ∙ ap (λ (l : List Pool). cond (not (p r)) (r ∷ l) l) (unmarked_keep ms rs (tells_tail m ms r rs t))
