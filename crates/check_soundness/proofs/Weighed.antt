-- The trades' weights in one pass: each record's share goes to its trade's cell, and no cell grows past what 4,096 faces can sum to.
use Rattle.std.proofs.Common.{◌≡◌, ℕ, ◌+◌, ◌*◌, ◌≤◌, ◌<◌, Bool, true, false, cond, not, ◌&&◌, eqb, List, [], ◌∷◌, length, get_or, drop, replicate, refl, sym, ap, ◌∙◌, arith, eq-eqb}
use Rattle.std.proofs.lemmas.List.Elements.{All-head, All-tail, All-get_or}
use lib.ListN.{get_or-replicate}
use Rattle.lists.proofs.Parts.{drop_turn}
use Rattle.terminator.specs.Lots.{million_cents}
use Rattle.book.specs.declared.Pool.{Pool}
use Rattle.book.specs.Opening.{trades_max, records_max, eleven_digits_max}
use Rattle.book.specs.Records.{kind_good}
use Rattle.rows.specs.Runs.{run_sum, weight_share, share_of}
use Rattle.check_soundness.specs.Parts.{light_one, Light}

share_small : (t : ℕ) (begins : Bool) (r : Pool) → light_one r → share_of t weight_share begins r ≤ eleven_digits_max
share_small t begins r h = go (eqb r.trade t) (eqb r.kind kind_good) begins
  where
    go : (a b c : Bool) → cond a (cond b (cond c (r.millions * million_cents) 0) r.current) 0 ≤ eleven_digits_max
    go true true true = omega arith
    go true true false = omega arith
    go true false c = h.1
    go false b c = omega arith

-- ---- all of them
pub sum_small : (t message ordinal : ℕ) (rs : List Pool) → Light rs → run_sum (share_of t weight_share) message ordinal rs ≤ length rs * eleven_digits_max
sum_small t message ordinal [] h = omega arith
sum_small t message ordinal (r ∷ rs) h =
    omega (
      arith,
      share_small t (not (eqb r.message message && eqb r.ordinal ordinal)) r (All-head light_one r rs h),
      sum_small t r.message r.ordinal rs (All-tail light_one r rs h),
    )

module _ (rs : List Pool) where
  -- every trade's cell and what is left to add make up its weight
  abbrev pub Weighed : List ℕ → ℕ → ℕ → ℕ → Type 0
  Weighed sums message ordinal i =
      (t : ℕ) → t < trades_max → get_or sums t 0 + run_sum (share_of t weight_share) message ordinal (drop i rs) ≡ run_sum (share_of t weight_share) 0 0 rs

  pub weighed_none : Weighed (replicate trades_max 0) 0 0 0
  weighed_none t h = omega (arith, get_or-replicate {A = ℕ} trades_max t 0 0 h)

  module _ (light : Light rs) (few : length rs ≤ records_max) (sums : List ℕ) (message ordinal i : ℕ) (inv : Weighed sums message ordinal i) (h : i < length rs) (d : Pool) (added : ℕ) where
    abbrev p : Pool
    p = get_or rs i d

    module _ (e : added ≡ weight_share (not (eqb p.message message && eqb p.ordinal ordinal)) p) where
      pub in_cells : p.trade < trades_max
      in_cells = (All-get_or light_one rs i d h light).0

      turn : (t : ℕ) → t < trades_max → get_or sums t 0 + (cond (eqb p.trade t) added 0 + run_sum (share_of t weight_share) p.message p.ordinal (drop (i + 1) rs)) ≡ run_sum (share_of t weight_share) 0 0 rs
      turn t k = rw e (sym (ap (λ (qs : List Pool). get_or sums t 0 + run_sum (share_of t weight_share) message ordinal qs) (drop_turn rs i d h)) ∙ inv t k)

      -- a cell after a share stays small
      pub cell_small : get_or sums p.trade 0 + added ≤ records_max * eleven_digits_max
      cell_small =
          let own = rw (eq-eqb p.trade p.trade refl) at (turn p.trade in_cells) in
          omega (arith, own, sum_small p.trade 0 0 rs light)
