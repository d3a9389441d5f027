-- A loop's sum over records is the sum over their live lots, where the records are in order, so that those of a lot stand together and agree,
-- and the first has a message ID, so that it begins a lot after none.
use mathlib.Core.Path.{◌≡◌, refl, sym, ap, ◌∙◌}
use mathlib.Core.List.Memᴰ
use mathlib.Core.List.{List, [], ◌∷◌}
use mathlib.Core.Bool.{Bool, true, false, cond, not, ◌&&◌, true≢false}
use Prim.Native.Nat.{ℕ, ◌+◌, ◌<◌}
use native.Mathlib.Omega.{arith}
use lib.Dec.{eqb, leb, ltb}
use borrow.Author.Tests.{leb-true, ne_eqb}
use Rattle.lists.specs.Lists.{keep, all, sum_of}
use Rattle.lists.proofs.Tests.{◌∈◌, and_left, and_right, cond_zero}
use Rattle.book.specs.declared.Pool.{Pool}
use Rattle.book.specs.declared.Values.{Values}
use Rattle.book.specs.Opening.{eleven_digits_max}
use Rattle.lists.specs.Lists.{between}
use Rattle.book.specs.Records.{kind_good, good_weight, same_lot, LiveLot, live_pools, join_lot, live_lots, live_weight, live_millions, of_trade, trade_weight, standing_millions}
use Rattle.book.specs.Soundness.{kind_fine, record_fine, follows, in_order}
use Rattle.book.proofs.ListLaws.{sum_keep}
use Rattle.book.proofs.LiveLots.{alone, joined}
use Rattle.book.proofs.Ordered.{lot_parts, lot_sym, follows_lot, follows_trade}
use Rattle.rows.specs.Runs.{run_sum, weight_share, millions_share, share_of}

-- a fine record has a message ID above 0
pub above : (v : Values) (r : Pool) → record_fine v r ≡ true → 0 < r.message
above v r e =
    let rest = leb 1 r.ordinal && (leb r.current eleven_digits_max && kind_fine r) in
    let p = and_left (between 1 v.last_message_id r.message) rest (and_right (ltb r.trade v.lent.trade_count) (between 1 v.last_message_id r.message && rest) e) in
    leb-true 1 r.message (and_left (leb 1 r.message) (leb r.message v.last_message_id) p)

-- a record is the first of the lots that it has joined
first_lot_law : (r : Pool) (ls : List LiveLot) → (xs : List Pool) × ((ks : List LiveLot) × (join_lot r ls ≡ record { first = r; rest = xs } ∷ ks))
first_lot_law r [] = ([], ([], refl))
first_lot_law r (l ∷ ls) = go (same_lot l.first r)
  where
    go : (b : Bool) → (xs : List Pool) × ((ks : List LiveLot) × (cond b (joined r l ∷ ls) (alone r ∷ (l ∷ ls)) ≡ record { first = r; rest = xs } ∷ ks))
    go true = (live_pools l, (ls, refl))
    go false = ([], (l ∷ ls, refl))

-- a share that makes up a value: of a lot by itself, and of one that a record joins
abbrev Single : (Bool → Pool → ℕ) → (LiveLot → ℕ) → Type 0
Single share value = (r : Pool) → value (alone r) ≡ share true r

abbrev More : (Bool → Pool → ℕ) → (LiveLot → ℕ) → Type 0
More share value = (q : Pool) (l : LiveLot) → follows q l.first ≡ true → same_lot l.first q ≡ true
    → value (joined q l) + share true l.first ≡ share true q + share false l.first + value l

module _ (share : Bool → Pool → ℕ) (value : LiveLot → ℕ) (single : Single share value) (more : More share value) where
  runs_from : (q : Pool) (rs : List Pool) → in_order (q ∷ rs) ≡ true → share true q + run_sum share q.message q.ordinal rs ≡ sum_of value (live_lots (q ∷ rs))
  runs_from q [] e = omega (arith, single q)
  runs_from q (r ∷ rs) e = go (first_lot_law r (live_lots rs)) (runs_from r rs (and_right (follows q r) (in_order (r ∷ rs)) e))
    where
      go : (xs : List Pool) × ((ks : List LiveLot) × (join_lot r (live_lots rs) ≡ record { first = r; rest = xs } ∷ ks)) → share true r + run_sum share r.message r.ordinal rs ≡ sum_of value (join_lot r (live_lots rs))
          → share true q + (share (not (same_lot r q)) r + run_sum share r.message r.ordinal rs) ≡ sum_of value (join_lot q (join_lot r (live_lots rs)))
      go (xs, (ks, k)) below = rw k (by (same_lot r q) refl (rw k at below))
        where
          by : (b : Bool) → same_lot r q ≡ b → share true r + run_sum share r.message r.ordinal rs ≡ value (record { first = r; rest = xs }) + sum_of value ks
              → share true q + (share (not b) r + run_sum share r.message r.ordinal rs)
              ≡ sum_of value (cond b (joined q (record { first = r; rest = xs }) ∷ ks) (alone q ∷ (record { first = r; rest = xs } ∷ ks)))
          by true s h = omega (arith, h, more q (record { first = r; rest = xs }) (and_left (follows q r) (in_order (r ∷ rs)) e) s)
          by false s h = omega (arith, h, single q)

  runs : (v : Values) (rs : List Pool) → in_order rs ≡ true → all (record_fine v) rs ≡ true → run_sum share 0 0 rs ≡ sum_of value (live_lots rs)
  runs v [] o f = refl
  runs v (q ∷ rs) o f =
      rw (ne_eqb q.message 0 (λ e. omega (arith, above v q (and_left (record_fine v q) (all (record_fine v) rs) f)))) (runs_from q rs o)

-- the lots of one trade
module _ (share : Bool → Pool → ℕ) (value : LiveLot → ℕ) (single : Single share value) (more : More share value) (t : ℕ) where
  trade_single : Single (share_of t share) (λ (l : LiveLot). cond (of_trade t l) (value l) 0)
  trade_single r = rw (single r)

  trade_more : More (share_of t share) (λ (l : LiveLot). cond (of_trade t l) (value l) 0)
  trade_more q l f s =
      go (eqb q.trade t) (eqb l.first.trade t) (ap (λ (n : ℕ). eqb n t) (follows_trade q l.first f (lot_parts q l.first (lot_sym l.first q s)).0))
    where
      go : (a b : Bool) → a ≡ b → cond a (value (joined q l)) 0 + cond b (share true l.first) 0 ≡ cond a (share true q) 0 + cond b (share false l.first) 0 + cond b (value l) 0
      go true true e = more q l f s
      go true false e = absurd (true≢false e)
      go false true e = absurd (true≢false (sym e))
      go false false e = refl

  trade_runs : (v : Values) (rs : List Pool) → in_order rs ≡ true → all (record_fine v) rs ≡ true → run_sum (share_of t share) 0 0 rs ≡ sum_of value (keep (of_trade t) (live_lots rs))
  trade_runs v rs o f = runs (share_of t share) (λ (l : LiveLot). cond (of_trade t l) (value l) 0) trade_single trade_more v rs o f ∙ sym (sum_keep value (of_trade t) (live_lots rs))

-- where all records are of one trade
share_one : (share : Bool → Pool → ℕ) (t u m o : ℕ) (rs : List Pool) → ((r : Pool) → r ∈ rs → r.trade ≡ t) → run_sum (share_of u share) m o rs ≡ cond (eqb t u) (run_sum share m o rs) 0
share_one share t u m o [] k = sym (cond_zero (eqb t u))
share_one share t u m o (r ∷ rs) k =
    rw (ap (λ (n : ℕ). eqb n u) (k r (Memᴰ.head refl)), share_one share t u r.message r.ordinal rs (λ q n. k q (Memᴰ.tail n))) (go (eqb t u))
  where
    go : (b : Bool) → cond b (share (not (eqb r.message m && eqb r.ordinal o)) r) 0 + cond b (run_sum share r.message r.ordinal rs) 0
        ≡ cond b (share (not (eqb r.message m && eqb r.ordinal o)) r + run_sum share r.message r.ordinal rs) 0
    go true = refl
    go false = refl

-- ---- weights and millions
weight_single : Single weight_share live_weight
weight_single r = go (eqb r.kind kind_good)
  where
    go : (b : Bool) → cond b (good_weight r.millions) (r.current + 0) ≡ cond b (good_weight r.millions) r.current
    go true = refl
    go false = omega arith

weight_more : More weight_share live_weight
weight_more q l f s = rw (follows_lot q l.first f (lot_sym l.first q s)).0 (go (eqb l.first.kind kind_good))
  where
    go : (b : Bool) → cond b (good_weight q.millions) (q.current + sum_of (λ (r : Pool). r.current) (live_pools l)) + cond b (good_weight l.first.millions) l.first.current
        ≡ cond b (good_weight q.millions) q.current + cond b 0 l.first.current + cond b (good_weight l.first.millions) (sum_of (λ (r : Pool). r.current) (live_pools l))
    go true = omega arith
    go false = omega arith

millions_single : Single millions_share live_millions
millions_single r = refl

millions_more : More millions_share live_millions
millions_more q l f s = omega arith

module _ (v : Values) (rs : List Pool) (order : in_order rs ≡ true) (fine : all (record_fine v) rs ≡ true) where
  pub trade_weight_runs : (t : ℕ) → run_sum (share_of t weight_share) 0 0 rs ≡ trade_weight t rs
  unfolding trade_weight
  trade_weight_runs t = trade_runs weight_share live_weight weight_single weight_more t v rs order fine

  pub standing_runs : (t : ℕ) → run_sum (share_of t millions_share) 0 0 rs ≡ standing_millions t rs
  unfolding standing_millions
  standing_runs t = trade_runs millions_share live_millions millions_single millions_more t v rs order fine

  -- where all records are of one trade, it has the whole sum
  pub weight_one : (t : ℕ) → ((r : Pool) → r ∈ rs → r.trade ≡ t) → (u : ℕ) → trade_weight u rs ≡ cond (eqb t u) (run_sum weight_share 0 0 rs) 0
  weight_one t k u = sym (trade_weight_runs u) ∙ share_one weight_share t u 0 0 rs k
