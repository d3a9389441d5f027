-- Records that are zeros are empty records, so that as many of them are one and the same table.
use Prim.Native.Nat.{ℕ}
use mathlib.Core.Path.{◌≡◌, refl, ap, ◌∙◌}
use mathlib.Core.List.{List, [], ◌∷◌}
use mathlib.Core.Bool.{true}
use lib.ListN.{length, replicate}
use lib.Dec.{eqb}
use borrow.Author.Tests.{eqb-true}
use Rattle.lists.specs.Lists.{same, all}
use Rattle.lists.proofs.Tests.{and_left, and_right, same_equal}
use Rattle.book.specs.declared.Pool.{Pool}
use Rattle.book.specs.Records.{no_pool}
use Rattle.book.specs.Soundness.{is_none}

-- zeros are the empty record
none_is : (r : Pool) → is_none r ≡ true → r ≡ no_pool
none_is r e =
    let e₁ = and_right (eqb r.message 0) _ e in
    let e₂ = and_right (eqb r.ordinal 0) _ e₁ in
    let e₃ = and_right (eqb r.trade 0) _ e₂ in
    let e₄ = and_right (same r.matched.lot no_pool.matched.lot) _ e₃ in
    let e₅ = and_right (same r.matched.pool no_pool.matched.pool) _ e₄ in
    let e₆ = and_right (same r.matched.original no_pool.matched.original) _ e₅ in
    let e₇ = and_right (eqb r.current 0) _ e₆ in
    fields r (eqb-true r.message 0 (and_left (eqb r.message 0) _ e)) (eqb-true r.ordinal 0 (and_left (eqb r.ordinal 0) _ e₁))
    (eqb-true r.trade 0 (and_left (eqb r.trade 0) _ e₂)) (same_equal r.matched.lot no_pool.matched.lot (and_left (same r.matched.lot no_pool.matched.lot) _ e₃))
    (same_equal r.matched.pool no_pool.matched.pool (and_left (same r.matched.pool no_pool.matched.pool) _ e₄))
    (same_equal r.matched.original no_pool.matched.original (and_left (same r.matched.original no_pool.matched.original) _ e₅))
    (eqb-true r.current 0 (and_left (eqb r.current 0) _ e₆)) (eqb-true r.kind 0 (and_left (eqb r.kind 0) (eqb r.millions 0) e₇))
    (eqb-true r.millions 0 (and_right (eqb r.kind 0) (eqb r.millions 0) e₇))
  where
    fields : (r : Pool) → r.message ≡ 0 → r.ordinal ≡ 0 → r.trade ≡ 0 → r.matched.lot ≡ no_pool.matched.lot → r.matched.pool ≡ no_pool.matched.pool
        → r.matched.original ≡ no_pool.matched.original → r.current ≡ 0 → r.kind ≡ 0 → r.millions ≡ 0 → r ≡ no_pool
    fields r a b c d e f g h i =
        λ j. record {
          message = a j;
          ordinal = b j;
          trade = c j;
          matched = record { lot = d j; pool = e j; original = f j };
          current = g j;
          kind = h j;
          millions = i j;
        }

pub zeros_are : (rs : List Pool) (n : ℕ) → length rs ≡ n → all is_none rs ≡ true → rs ≡ replicate n no_pool
zeros_are [] n l e = ap (λ (k : ℕ). replicate k no_pool) l
zeros_are (r ∷ rs) n l e =
    (λ i. none_is r (and_left (is_none r) (all is_none rs) e) i ∷ zeros_are rs (length rs) refl (and_right (is_none r) (all is_none rs) e) i)
    ∙ ap (λ (k : ℕ). replicate k no_pool) l
