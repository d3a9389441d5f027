-- The live records in one pass: the first by itself, and each other by itself and after the one before it.
use Rattle.std.proofs.Common.{◌≡◌, ℕ, suc, ◌-◌, ◌<◌, Bool, true, false, ◌&&◌, List, [], ◌∷◌, length, get_or, take, drop, take_all, arith, refl, sym, ap, ◌∙◌}
use mathlib.Core.Bool.{and_assoc}
use Rattle.lists.specs.Lists.{all}
use Rattle.book.specs.declared.Pool.{Pool}
use Rattle.book.specs.declared.Values.{Values}
use Rattle.book.specs.Soundness.{record_fine, follows, in_order}

module _ (v : Values) where
  -- whether each record is fine and follows the one before it, the first of them q
  abbrev pub chained : Pool → List Pool → Bool
  chained q [] = true
  chained q (r ∷ rs) = (record_fine v r && follows q r) && chained r rs

  swap : (a b c d : Bool) → ((a && b) && (c && d)) ≡ ((a && c) && (b && d))
  swap true true c d = refl
  swap true false true d = refl
  swap true false false d = refl
  swap false b c d = refl

  chained_after : (q : Pool) (rs : List Pool) → (all (record_fine v) rs && in_order (q ∷ rs)) ≡ chained q rs
  chained_after q [] = refl
  chained_after q (r ∷ rs) =
      swap (record_fine v r) (all (record_fine v) rs) (follows q r) (in_order (r ∷ rs)) ∙ ap (λ (b : Bool). (record_fine v r && follows q r) && b) (chained_after r rs)

  -- the first record by itself, and the others after it
  pub chained_first : (q : Pool) (rs : List Pool) → (all (record_fine v) (q ∷ rs) && in_order (q ∷ rs)) ≡ (record_fine v q && chained q rs)
  chained_first q rs = and_assoc (record_fine v q) (all (record_fine v) rs) (in_order (q ∷ rs)) ∙ ap (λ (b : Bool). record_fine v q && b) (chained_after q rs)

  -- a fine record, after which those of rs from the i-th on are still the answer
  pub record Chained (live : List Pool) (q : Pool) (rs : List Pool) (i : ℕ) : Type 0 where
    pub fine : record_fine v q ≡ true
    pub rest : chained q (drop i rs) ≡ (all (record_fine v) live && in_order live)

  pub chained_none : (live : List Pool) (d : Pool) → 0 < length live → record_fine v (get_or live 0 d) ≡ true → Chained live (get_or live 0 d) (take (length live - 1) (drop 1 live)) 0
  chained_none [] d h e = absurd (omega arith)
  chained_none (q ∷ rs) d h e =
      let s : take (suc (length rs) - 1) rs ≡ rs = take_all (suc (length rs) - 1) rs (omega arith) in
      record { fine = e; rest = ap (chained q) s ∙ sym (chained_first q rs ∙ rw e) }
