-- What is told of a fault of opening: words that lend nothing break their own rule, others what their values break.
use Rattle.std.proofs.Common.{◌≡◌, ℕ, Bool, true, false, cond, List, Option, Some, None, unwrap_or, is_some, refl, sym, ap, ◌∙◌}
use mathlib.Core.Bool.{true≢false}
use Rattle.image.specs.Images.{is_lent, values_in}
use Rattle.fault.specs.Rules.{test, or_else}
use Rattle.fault.specs.Faults.{opening_fault}
use Rattle.book.specs.declared.Values.{Values}
use Rattle.image_reading.specs.Reading.{read_lent}
use Rattle.calls_words.specs.Faults.{opening_fault_in}

some_not : {v : Values} → ◌≡◌ {A = Option Values} (Some v) None → ⊥
some_not e = true≢false (ap (λ (o : Option Values). is_some o) e)

by_lent : (ws : List ℕ) (records : ℕ) → opening_fault_in ws records ≡ cond (is_lent ws) (opening_fault (values_in ws) records) (test 101 0 false)
unfolding opening_fault_in test
by_lent ws records = go (is_lent ws)
  where
    go : (b : Bool) → or_else (test 101 0 b) (opening_fault (values_in ws) records) ≡ cond b (opening_fault (values_in ws) records) (test 101 0 false)
    go true = refl
    go false = refl

pub lent_none : (ws : List ℕ) (records : ℕ) → read_lent ws ≡ None → test 101 0 false ≡ opening_fault_in ws records
unfolding read_lent
lent_none ws records e = go (is_lent ws) e ∙ sym (by_lent ws records)
  where
    go : (b : Bool) → cond b (Some (values_in ws)) None ≡ None → test 101 0 false ≡ cond b (opening_fault (values_in ws) records) (test 101 0 false)
    go true e = absurd (some_not e)
    go false e = refl

pub lent_some : (ws : List ℕ) (records : ℕ) (v : Values) → read_lent ws ≡ Some v → opening_fault v records ≡ opening_fault_in ws records
unfolding read_lent
lent_some ws records v e = go (is_lent ws) e ∙ sym (by_lent ws records)
  where
    go : (b : Bool) → cond b (Some (values_in ws)) None ≡ Some v → opening_fault v records ≡ cond b (opening_fault (values_in ws) records) (test 101 0 false)
    go true e = ap (λ (o : Option Values). opening_fault (unwrap_or o v) records) (sym e)
    go false e = absurd (some_not (sym e))
