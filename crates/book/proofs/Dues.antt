-- Lots due to trades: what they are as lots, and what they come to where all go to one trade, as those of a message do.
use Prim.Native.Nat.{ℕ, ◌+◌, ◌≤◌, ◌<◌}
use native.Mathlib.Omega.{arith}
use native.Mathlib.Decide.{ℕ_discrete}
use mathlib.Core.Path.{◌≡◌, refl, sym, ap, subst, ◌∙◌}
use mathlib.Core.Logic.{◌⊎◌, inl, inr}
use mathlib.Core.List.Memᴰ
use mathlib.Core.List.{List, [], ◌∷◌, map}
use mathlib.Core.Bool.{Bool, true, false, cond, ◌&&◌}
use lib.Dec.{eqb, leb, ltb}
use lib.ListN.{length}
use borrow.Author.Tests.{ltb-true, leb-true, eq-eqb, ne_eqb}
use Rattle.lists.specs.Lists.{all, sum_of}
use Rattle.lists.proofs.Tests.{◌∈◌, and_left, and_right, cond_zero, all_in, all_out}
use Rattle.terminator.specs.Lots.{Lot, lot_weight}
use Rattle.book.specs.declared.Trade.{Trade}
use Rattle.book.specs.declared.Pool.{Pool}
use Rattle.book.specs.Dues.{Due, due, due_share, due_weight}
use Rattle.book.specs.Records.{trade_weight}
use Rattle.book.specs.Messages.{type_of, brought}
use Rattle.book.specs.Trades.{brought_weight, trade_of_on, open_pars}
use Rattle.book.specs.Checks.{target_trade, trade_at, trade_due, dues_by, par_holds, dues_fit}
use Rattle.message_type.specs.Questions.{is_on}

-- the lots themselves
abbrev pub due_lots : List Due → List Lot
due_lots [] = []
due_lots (d ∷ ds) = d.lot ∷ due_lots ds

-- all go to one trade
abbrev pub AllTo : ℕ → List Due → Type 0
AllTo t ds = (d : Due) → d ∈ ds → d.to ≡ t

module _ (t : ℕ) where
  pub lots_due_law : (ls : List Lot) → due_lots (map (due t) ls) ≡ ls
  lots_due_law [] = refl
  lots_due_law (l ∷ ls) = ap (λ (xs : List Lot). l ∷ xs) (lots_due_law ls)

  pub all_due : (ls : List Lot) → AllTo t (map (due t) ls)
  all_due ls d m = let (l, ml, el) = Memᴰ.of_map (due t) ls m in rw (← el)

  -- what they come to for any trade
  pub sum_due : (share : Lot → ℕ) (u : ℕ) (ls : List Lot) → sum_of (due_share u share) (map (due t) ls) ≡ cond (eqb t u) (sum_of share ls) 0
  sum_due share u [] = sym (cond_zero (eqb t u))
  sum_due share u (l ∷ ls) = rw (sum_due share u ls) (go (eqb t u))
    where
      go : (b : Bool) → cond b (share l) 0 + cond b (sum_of share ls) 0 ≡ cond b (share l + sum_of share ls) 0
      go true = refl
      go false = refl

-- a trade has a lot due to it, or nothing
pub due_or_none : (share : Lot → ℕ) (u : ℕ) (ds : List Due) → ((d : Due) × (d ∈ ds) × (d.to ≡ u)) ⊎ (sum_of (due_share u share) ds ≡ 0)
due_or_none share u [] = inr refl
due_or_none share u (d ∷ ds) = go (ℕ_discrete d.to u) (due_or_none share u ds)
  where
    go : Dec (d.to ≡ u) → ((e : Due) × (e ∈ ds) × (e.to ≡ u)) ⊎ (sum_of (due_share u share) ds ≡ 0)
        → ((e : Due) × (e ∈ (d ∷ ds)) × (e.to ≡ u)) ⊎ (cond (eqb d.to u) (share d.lot) 0 + sum_of (due_share u share) ds ≡ 0)
    go (yes e) below = inl (d, Memᴰ.head refl, e)
    go (no n) (inl (e, m, q)) = inl (e, Memᴰ.tail m, q)
    go (no n) (inr z) = inr (rw (ne_eqb d.to u n) (omega arith))

-- ---- 38: every trade to which a lot is due is opened, and holds what is due to it; so does any other, to which nothing is
module _ (ts : List Trade) (off : List Pool) (ds : List Due) (e : dues_fit ts off ds ≡ true) where
  held : (d : Due) → d ∈ ds → par_holds ts off ds d.to ≡ true
  held d m = all_out (λ (d : Due). par_holds ts off ds d.to) m e

  pub held_range : (d : Due) → d ∈ ds → d.to < length ts
  held_range d m = ltb-true d.to (length ts) (and_left (ltb d.to (length ts)) _ (held d m))

  pub held_room : (u : ℕ) → due_weight u ds ≤ (trade_at ts u).open_par + trade_weight u off
  unfolding due_weight
  held_room u = go (due_or_none lot_weight u ds)
    where
      go : ((d : Due) × (d ∈ ds) × (d.to ≡ u)) ⊎ (sum_of (due_share u lot_weight) ds ≡ 0) → due_weight u ds ≤ (trade_at ts u).open_par + trade_weight u off
      go (inl (d, m, q)) =
          leb-true (due_weight u ds) ((trade_at ts u).open_par + trade_weight u off)
          (and_right (ltb u (length ts)) (leb (due_weight u ds) ((trade_at ts u).open_par + trade_weight u off)) (rw q at (held d m)))
      go (inr z) = omega arith

-- where all go to one trade, and some lot does, it is asked of that trade alone
pub fit_one : (ts : List Trade) (off : List Pool) (t : ℕ) (l : Lot) (ls : List Lot)
    → dues_fit ts off (map (due t) (l ∷ ls)) ≡ (ltb t (length ts) && leb (sum_of lot_weight (l ∷ ls)) ((trade_at ts t).open_par + trade_weight t off))
unfolding due_weight
fit_one ts off t l ls =
    alike (map (due t) ls) (all_due t ls)
    ∙ ap (λ (n : ℕ). ltb t (length ts) && leb n ((trade_at ts t).open_par + trade_weight t off)) (sum_due t lot_weight t (l ∷ ls) ∙ rw (eq-eqb t t refl))
  where
    alike : (ds : List Due) → AllTo t ds → (par_holds ts off (map (due t) (l ∷ ls)) t && all (λ (d : Due). par_holds ts off (map (due t) (l ∷ ls)) d.to) ds) ≡ par_holds ts off (map (due t) (l ∷ ls)) t
    alike ds k = go (par_holds ts off (map (due t) (l ∷ ls)) t) refl
      where
        go : (x : Bool) → par_holds ts off (map (due t) (l ∷ ls)) t ≡ x → (x && all (λ (d : Due). par_holds ts off (map (due t) (l ∷ ls)) d.to) ds) ≡ x
        go true e = all_in (λ (d : Due). par_holds ts off (map (due t) (l ∷ ls)) d.to) ds (λ d m. subst (λ (u : ℕ). par_holds ts off (map (due t) (l ∷ ls)) u ≡ true) (sym (k d m)) e)
        go false e = refl

-- ---- the lots that a message brings
module _ (body : List ℕ) (ts : List Trade) (rs : List Pool) where
  pub dues_lots : due_lots (dues_by body ts rs) ≡ brought body
  unfolding dues_by
  dues_lots = lots_due_law (trade_due body ts rs) (brought body)

  pub dues_all : AllTo (trade_due body ts rs) (dues_by body ts rs)
  unfolding dues_by
  dues_all = all_due (trade_due body ts rs) (brought body)

  pub dues_none : brought body ≡ [] → dues_by body ts rs ≡ []
  unfolding dues_by
  dues_none e = ap (map (due (trade_due body ts rs))) e

  -- an ON's go where its rule says, every other's to the target's trade
  pub dues_on : is_on (type_of body) ≡ true → dues_by body ts rs ≡ map (due (trade_of_on body ts (open_pars ts))) (brought body)
  unfolding dues_by
  dues_on e = rw e

  pub dues_target : is_on (type_of body) ≡ false → dues_by body ts rs ≡ map (due (target_trade body rs)) (brought body)
  unfolding dues_by
  dues_target e = rw e

  -- the first of them
  pub dues_first : (l : Lot) (ls : List Lot) → brought body ≡ l ∷ ls → due (trade_due body ts rs) l ∈ dues_by body ts rs
  unfolding dues_by
  dues_first l ls e = rw e (Memᴰ.head refl)

  -- 38 of them, where there is one
  pub dues_fit_law : (off : List Pool) (l : Lot) (ls : List Lot) → brought body ≡ l ∷ ls
      → dues_fit ts off (dues_by body ts rs)
      ≡ (ltb (trade_due body ts rs) (length ts) && leb (brought_weight body) ((trade_at ts (trade_due body ts rs)).open_par + trade_weight (trade_due body ts rs) off))
  unfolding dues_by brought_weight
  dues_fit_law off l ls e = rw e (fit_one ts off (trade_due body ts rs) l ls)

  -- all that they weigh is due to the one trade
  pub dues_weight : (u : ℕ) → due_weight u (dues_by body ts rs) ≡ cond (eqb (trade_due body ts rs) u) (brought_weight body) 0
  unfolding dues_by due_weight brought_weight
  dues_weight u = sum_due (trade_due body ts rs) lot_weight u (brought body)
