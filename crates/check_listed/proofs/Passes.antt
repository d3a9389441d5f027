-- The passes of the code: what is left of the pools, or of the records, still leads to the same answer.
use Prim.Native.Nat.{ℕ, zero, suc, ◌+◌, ◌-◌, ◌≤◌, ◌<◌}
use mathlib.Core.Path.{◌≡◌, refl, sym, ap, ap₂, subst, ◌∙◌}
use mathlib.Core.List.{List, [], ◌∷◌, map}
use mathlib.Core.Logic.{◌⊎◌, inl, inr}
use mathlib.Core.Bool.{Bool, true, false, cond, ◌&&◌}
use native.Mathlib.Omega.{arith}
use lib.Dec.{eqb}
use lib.ListN.{length, get_or}
use Rattle.std.specs.Prelude.{Option, Some, None, unwrap_or}
use Rattle.std.specs.List.{AllByRecursion, zip, range_with_len}
use Rattle.std.proofs.lemmas.List.Folds.{fold-map}
use Rattle.lists.specs.Lists.{tab, all, fold}
use Rattle.layout.specs.declared.Detail.{Detail}
use Rattle.layout.specs.Details.{pools_max, pool_count, details}
use Rattle.layout.proofs.Lengths.{count_max}
use Rattle.layout.proofs.Passes.{pool_of}
use Rattle.layout.proofs.Reader.{length_details}
use Rattle.terminator.specs.Terminators.{is_end, term}
use Rattle.book.specs.declared.Pool.{Pool}
use Rattle.check_listed.specs.declared.Alike.{Alike}
use Rattle.check_listed.specs.Marks.{Entry, Marked, Places, is_listed, number_after, entries_from, mark_place, mark_all, even_at, marks_even}
use Rattle.check_listed.specs.Lots.{record_of, ordinal_in, last_fits, alike_pool, none_alike, alike_all}

-- ---- one pool
pub number_most : (cc : Bool) (k : ℕ) (d : Detail) → number_after cc k d ≤ k + 1
number_most cc k d = go (cc && is_end (term d))
  where
    go : (b : Bool) → cond b (k + 1) k ≤ k + 1
    go true = omega arith
    go false = omega arith

module _ (s : Alike) (d : Detail) (r : Option Pool) (o b : ℕ) (eo : o ≡ ordinal_in r) (eb : b ≡ unwrap_or s.lot o) (e : Bool) (ee : e ≡ is_end (term d)) where
  pub alike_end : e ≡ true → (l : Bool) → l ≡ last_fits d r → ◌≡◌ {A = Alike} (record { fine = (s.fine && eqb b o) && l; lot = None }) (alike_pool s d r)
  unfolding alike_pool
  alike_end h l el = rw (sym ee ∙ h, el, eb, eo)

  pub alike_on : e ≡ false → ◌≡◌ {A = Alike} (record { fine = s.fine && eqb b o; lot = Some b }) (alike_pool s d r)
  unfolding alike_pool
  alike_on h = rw (sym ee ∙ h, eb, eo)

-- ---- the pools of a body, each with the cell of its index
each_of : (R : Detail × ℕ → Type 0) (f : ℕ → Detail) (n k : ℕ) (cs : List ℕ) → ((i : ℕ) → i < n → R (f (k + i), get_or cs i 0))
    → AllByRecursion R (zip (tab f n k) cs)
each_of R f zero k cs h = tt
each_of R f (suc n) k [] h = tt
each_of R f (suc n) k (c ∷ cs) h =
    let first : k + 0 ≡ k = omega arith in (
      subst (λ (j : ℕ). R (f j, c)) first (h 0 (omega arith)),
      each_of R f n (k + 1) cs (λ (i : ℕ) a. let next : k + suc i ≡ k + 1 + i = omega arith in subst (λ (j : ℕ). R (f j, get_or cs i 0)) next (h (suc i) (omega arith))),
    )

-- what holds of each index holds of each pool with its cell
pub each_cell : (R : Detail × ℕ → Type 0) (body cs : List ℕ) → ((i : ℕ) → i < pool_count body → R (pool_of body i, get_or cs i 0))
    → AllByRecursion R (zip (details body) cs)
unfolding details
each_cell R body cs h =
    each_of R (pool_of body) (pool_count body) 0 cs
    (λ (i : ℕ) a. let none : i ≡ 0 + i = omega arith in subst (λ (j : ℕ). R (pool_of body j, get_or cs i 0)) none (h i a))

zip_map : (place : Detail → ℕ) (ds : List Detail) (cs : List ℕ) → length ds ≤ length cs → AllByRecursion (λ (p : Detail × ℕ). p.1 ≡ place p.0) (zip ds cs)
    → zip ds cs ≡ map (λ (d : Detail). (d, place d)) ds
zip_map place [] cs h a = refl
zip_map place (d ∷ ds) [] h a = absurd (omega arith)
zip_map place (d ∷ ds) (c ∷ cs) h a = ap₂ (λ (x : ℕ) (ps : List (Detail × ℕ)). (d, x) ∷ ps) a.0 (zip_map place ds cs (omega arith) a.1)

-- the cells are the places
placed : (place : Detail → ℕ) (body at : List ℕ) → length at ≡ pools_max → Places place body at → zip (details body) at ≡ map (λ (d : Detail). (d, place d)) (details body)
placed place body at l h = zip_map place (details body) at (omega (arith, length_details body, count_max body)) (each_cell _ body at h)

-- where either is at its end no pair is left
pub none_left : (ds : List Detail) (cs : List ℕ) → (ds ≡ []) ⊎ (length cs ≡ 0) → zip ds cs ≡ []
none_left [] cs h = refl
none_left (d ∷ ds) [] h = refl
none_left (d ∷ ds) (c ∷ cs) (inl e) = absurd (omega (arith, ap length e))
none_left (d ∷ ds) (c ∷ cs) (inr e) = absurd (omega (arith, e))

-- ---- marks
-- one pool more, with its cell: the marks, and the number of the next lot
abbrev pub marking : Bool → Marked × ℕ → Detail × ℕ → Marked × ℕ
marking cc s p = (cond (is_listed cc p.0) (mark_place s.0 (record { lot = s.1; place = p.1 })) s.0, number_after cc s.1 p.0)

module _ (cc : Bool) (place : Detail → ℕ) where
  marking_all : (s : Marked) (k : ℕ) (ds : List Detail) → (fold (marking cc) (s, k) (map (λ (d : Detail). (d, place d)) ds)).0 ≡ mark_all s (entries_from cc place k ds)
  marking_all s k [] = refl
  marking_all s k (d ∷ ds) =
      let e : Entry = record { lot = k; place = place d } in
      let n : ℕ = number_after cc k d in
      let es : List Entry = entries_from cc place n ds in
      elim (is_listed cc d) as (λ b. (fold (marking cc) (cond b (mark_place s e) s, n) (map (λ (x : Detail). (x, place x)) ds)).0 ≡ mark_all s (cond b (e ∷ es) es))
      [ true ↦ marking_all (mark_place s e) n ds | false ↦ marking_all s n ds ]

  pub marking_done : (body at : List ℕ) (s : Marked) → length at ≡ pools_max → Places place body at
      → (fold (marking cc) (s, 1) (zip (details body) at)).0 ≡ mark_all s (entries_from cc place 1 (details body))
  marking_done body at s l h = rw (placed place body at l h) (marking_all s 1 (details body))

-- ---- lots
-- one pool more, with the record that its cell names
abbrev pub liking : List Pool → Alike → Detail × ℕ → Alike
liking ps s p = alike_pool s p.0 (record_of ps p.1 p.0)

pub liking_done : (ps : List Pool) (place : Detail → ℕ) (body at : List ℕ) → length at ≡ pools_max → Places place body at
    → fold (liking ps) none_alike (zip (details body) at) ≡ alike_all (λ (d : Detail). record_of ps (place d) d) (details body)
liking_done ps place body at l h = rw (placed place body at l h) (fold-map (liking ps) (λ (d : Detail). (d, place d)) none_alike (details body))

-- ---- neighbors
module _ (ps : List Pool) (ms : List ℕ) where
  -- the test of a record and the one before it
  abbrev pub even_before : ℕ → Bool
  even_before next = even_at ps ms (next - 1)

  before_all : (n start : ℕ) → all even_before (range_with_len (start + 1) n) ≡ all (even_at ps ms) (tab (λ (j : ℕ). j) n start)
  before_all zero start = refl
  before_all (suc n) start =
      let e : start + 1 - 1 ≡ start = omega arith in
      ap₂ (λ (a b : Bool). a && b) (ap (even_at ps ms) e) (before_all n (start + 1))

  pub before_even : (start stop : ℕ) → all even_before (range_with_len (start + 1) (stop - 1 - start)) ≡ marks_even ps ms start stop
  unfolding marks_even
  before_even start stop = before_all (stop - 1 - start) start
