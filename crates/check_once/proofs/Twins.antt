-- The live records in order: those taken in have no twins, and a record that does not stand in its run has none before it.
use mathlib.Core.Path.{◌≡◌, refl, sym, ap, ap₂, ◌∙◌}
use mathlib.Core.List.{List, [], ◌∷◌}
use mathlib.Core.Bool.{Bool, true, false, cond, not, ◌&&◌, and-false}
use Prim.Native.Nat.{ℕ, ◌+◌, ◌-◌, ◌≤◌, ◌<◌}
use native.Mathlib.Omega.{arith}
use native.Mathlib.Decide.{ℕ_discrete, dec_lt}
use lib.ListN.{length}
use lib.Dec.{eqb}
use borrow.Author.Tests.{eq-eqb, ne_eqb}
use Rattle.lists.specs.Lists.{tab, any}
use Rattle.lists.proofs.Tables.{table_of_law}
use Rattle.lists.proofs.Tests.{un_true, clash}
use Rattle.book.specs.declared.Pool.{Pool}
use Rattle.book.specs.Records.{Fields, live_fields, same_fields}
use Rattle.book.specs.Soundness.{in_order, fields_once}
use Rattle.book.proofs.Matched.{fields_equal}
use Rattle.check_once.specs.Seen.{past, record_at, fields_at}
use Rattle.check_once.proofs.Pairs.{some_of, place_of, apart, apart_all, apart_not}
use Rattle.check_once.proofs.Runs.{Rising, rises, Run, run_none, run_of, run_more, run_same, run_lower}

-- whether two records have one message ID and the same matched fields
abbrev pub twins : Pool → Pool → Bool
twins r s = eqb r.message s.message && same_fields (live_fields r) (live_fields s)

pub once_apart : (rs : List Pool) → fields_once rs ≡ apart twins rs
once_apart [] = refl
once_apart (r ∷ rs) = ap (λ (b : Bool). not (any (twins r) rs) && b) (once_apart rs)

-- a record alone has no twin
pub few_once : (rs : List Pool) → length rs < 2 → fields_once rs ≡ true
few_once [] h = refl
few_once (r ∷ []) h = refl
few_once (r ∷ s ∷ rs) h = absurd (omega (arith, h))

fields_back : (f g : Fields) → same_fields f g ≡ true → same_fields g f ≡ true
fields_back f g e =
    let q : f ≡ g = fields_equal f g e in
    ap (same_fields g) q ∙ sym (ap (λ (h : Fields). same_fields h g) q) ∙ e

module _ (rs : List Pool) where
  by_place : rs ≡ tab (record_at rs) (length rs) 0
  by_place = table_of_law past rs (length rs) refl

  pub live_rises : in_order rs ≡ true → Rising (record_at rs) (length rs)
  live_rises e = rises (record_at rs) (length rs) (sym (ap in_order by_place) ∙ e)

  -- the first i records, of which those from start on are the last message's
  pub record Once (start i : ℕ) : Type 0 where
    pub run : Run (record_at rs) start i
    pub once : (k m : ℕ) → k < m → m < i → twins (record_at rs k) (record_at rs m) ≡ false

  pub once_none : Once 0 0
  once_none = record { run = run_none (record_at rs); once = λ (k m : ℕ) a b. absurd (omega arith) }

  module _ (start i : ℕ) (up : Rising (record_at rs) (length rs)) (o : Once start i) (h : i < length rs) (s : ℕ) (e : s ≡ run_of (record_at rs) start i) where
    at_run : Run (record_at rs) s (i + 1)
    at_run = run_more (record_at rs) (length rs) start i up o.run h s e

    pub run_before : s ≤ i
    run_before = go (eqb (record_at rs i).message (record_at rs start).message) e
      where
        go : (b : Bool) → s ≡ cond b start i → s ≤ i
        go true p = omega (arith, o.run.before)
        go false p = omega arith

    -- it has no twin before it
    new_apart : any (same_fields (fields_at rs i)) (tab (fields_at rs) (i - s) s) ≡ false → (k : ℕ) → k < i → twins (record_at rs k) (record_at rs i) ≡ false
    new_apart n k a = go (dec_lt k s)
      where
        go : Dec (k < s) → twins (record_at rs k) (record_at rs i) ≡ false
        go (yes p) =
            let l : (record_at rs k).message < (record_at rs i).message = run_lower (record_at rs) s i k at_run p run_before in
            rw (ne_eqb (record_at rs k).message (record_at rs i).message (λ q. omega arith))
        go (no p) =
            let d : same_fields (fields_at rs k) (fields_at rs i) ≡ false =
            un_true (same_fields (fields_at rs k) (fields_at rs i))
            (λ t. clash (some_of (same_fields (fields_at rs i)) (fields_at rs) (i - s) s k (omega arith) (omega (arith, run_before)) (fields_back (fields_at rs k) (fields_at rs i) t)) n) in
            ap (λ (b : Bool). eqb (record_at rs k).message (record_at rs i).message && b) d ∙ and-false (eqb (record_at rs k).message (record_at rs i).message)

    pub once_more : (b : Bool) → b ≡ any (same_fields (fields_at rs i)) (tab (fields_at rs) (i - s) s) → b ≡ false → Once s (i + 1)
    once_more b q n = record { run = at_run; once = λ (k m : ℕ) a d. go k m a d (ℕ_discrete m i) }
      where
        go : (k m : ℕ) → k < m → m < i + 1 → Dec (m ≡ i) → twins (record_at rs k) (record_at rs m) ≡ false
        go k m a d (yes p) = ap (λ (j : ℕ). twins (record_at rs k) (record_at rs j)) p ∙ new_apart (sym q ∙ n) k (omega arith)
        go k m a d (no p) = o.once k m a (omega arith)

    pub once_stop : (b : Bool) → b ≡ any (same_fields (fields_at rs i)) (tab (fields_at rs) (i - s) s) → b ≡ true → false ≡ fields_once rs
    once_stop b q t =
        let p = place_of (same_fields (fields_at rs i)) (fields_at rs) (i - s) s (sym q ∙ t) in
        let k : ℕ = p.0 in
        let a : s ≤ k = p.1 in
        let d : k < i = omega (arith, p.2, run_before) in
        let m : eqb (record_at rs k).message (record_at rs i).message ≡ true = eq-eqb (record_at rs k).message (record_at rs i).message (run_same (record_at rs) s i k at_run a (omega arith)) in
        let y : twins (record_at rs k) (record_at rs i) ≡ true = ap₂ (λ (x z : Bool). x && z) m (fields_back (fields_at rs i) (fields_at rs k) p.3) in
        sym (once_apart rs ∙ ap (apart twins) by_place ∙ apart_not twins (record_at rs) (length rs) 0 k i (omega arith) d (omega arith) y)

  pub once_done : (start i : ℕ) → Once start i → length rs ≤ i → true ≡ fields_once rs
  once_done start i o h = sym (once_apart rs ∙ ap (apart twins) by_place ∙ apart_all twins (record_at rs) (length rs) 0 (λ (k m : ℕ) a b d. o.once k m b (omega arith)))
