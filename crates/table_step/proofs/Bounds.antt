-- Bounds that a sound book gives: its weights and open pars fit their words.
use Prim.Native.Nat.{ℕ, zero, suc, ◌+◌, ◌≤◌, ◌<◌}
use native.Mathlib.Omega.{arith}
use mathlib.Core.Path.{◌≡◌, refl, ap, ◌∙◌}
use mathlib.Core.List.{List, [], ◌∷◌}
use mathlib.Core.Bool.{true, not, ◌||◌}
use lib.ListN.{length, replicate}
use lib.Dec.{eqb, leb}
use borrow.Author.Tests.{eqb-true, leb-true}
use Rattle.lists.specs.Lists.{same, all, between}
use Rattle.lists.proofs.Tests.{and_left, and_right, same_equal}
use Rattle.calendar.specs.Calendar.{business_date}
use Rattle.book.specs.declared.Trade.{Trade}
use Rattle.book.specs.declared.Pool.{Pool}
use Rattle.book.specs.Records.{trade_weight, no_pool}
use Rattle.book.specs.Opening.{eleven_digits_max, price_max, id_fine, account_fine, trade_fine}
use Rattle.book.specs.Messages.{ftba, fsti}
use Rattle.fields.specs.Fields.{all_visible}
use Rattle.book.specs.Soundness.{is_none, pars_from}
use Rattle.book.specs.Checks.{trade_at}

-- a trade's par has eleven digits, and its open par is no more
par_most : (holidays : List ℕ) (t : Trade) → trade_fine holidays t ≡ true → t.par ≤ eleven_digits_max
par_most holidays t e =
    let e₁ = and_right (id_fine t) _ e in
    let e₂ = and_right (account_fine t.seller) _ e₁ in
    let e₃ = and_right (account_fine t.buyer) _ e₂ in
    let e₄ = and_right (not (same t.seller t.buyer)) _ e₃ in
    let e₅ = and_right (same t.contra ftba || same t.contra fsti) _ e₄ in
    let e₆ = and_right (all_visible t.cusip 0 9) _ e₅ in
    let e₇ = and_right (business_date t.settlement holidays) _ e₆ in
    let e₈ : between 1 eleven_digits_max t.par ≡ true = and_right (between 1 price_max t.price) _ e₇ in
    leb-true t.par eleven_digits_max (and_right (leb 1 t.par) (leb t.par eleven_digits_max) e₈)

pub left_most : (holidays : List ℕ) (i n : ℕ) (ts : List Trade) (rs : List Pool) → pars_from i ts rs ≡ true → all (trade_fine holidays) ts ≡ true
    → n < length ts
    → (trade_at ts n).open_par ≤ eleven_digits_max
left_most holidays i n [] rs p f h = absurd (omega (arith, h))
left_most holidays i zero (t ∷ ts) rs p f h =
    let e = eqb-true (t.open_par + trade_weight i rs) t.par (and_left (eqb (t.open_par + trade_weight i rs) t.par) (pars_from (i + 1) ts rs) p) in
    let m = par_most holidays t (and_left (trade_fine holidays t) (all (trade_fine holidays) ts) f) in
    omega (arith, e, m)
left_most holidays i (suc n) (t ∷ ts) rs p f h =
    left_most holidays (i + 1) n ts rs (and_right (eqb (t.open_par + trade_weight i rs) t.par) (pars_from (i + 1) ts rs) p)
    (and_right (trade_fine holidays t) (all (trade_fine holidays) ts) f) (omega (arith, h))
