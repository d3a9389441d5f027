-- An accepted message moves no trade past those that count: what it takes off lives on a trade that counts, and what it brings goes to one.
use Prim.Native.Nat.{ℕ, zero, suc, ◌+◌, ◌-◌, ◌≤◌}
use mathlib.Core.Path.{◌≡◌, refl, sym, ap, ◌∙◌}
use mathlib.Core.Logic.{◌⊎◌, inl, inr}
use mathlib.Core.List.Memᴰ
use mathlib.Core.List.{List, [], ◌∷◌, map}
use mathlib.Core.Bool.{Bool, true, false, cond}
use native.Mathlib.Nat.{add-zero, zero-add}
use native.Mathlib.Omega.{arith}
use lib.ListN.{length, get_or, length-map, length-take, get_or-map}
use lib.Dec.{ltb}
use borrow.Author.Tests.{ltb-true, ne_eqb}
use Rattle.lists.specs.Lists.{all, sum_of}
use Rattle.lists.proofs.Tests.{◌∈◌, and_left, and_right, both, all_out, keep_none}
use Rattle.terminator.specs.Lots.{lot_weight}
use Rattle.message_type.specs.Questions.{brings_lots}
use Rattle.book.specs.declared.Trade.{Trade}
use Rattle.book.specs.declared.Pool.{Pool}
use Rattle.book.specs.Reasons.{is_accepted}
use Rattle.book.specs.Dues.{Due, due_share, due_weight}
use Rattle.book.specs.Records.{same_lot, LiveLot, join_lot, live_lots, live_weight, of_trade, trade_weight}
use Rattle.book.specs.Messages.{type_of, target_of, listed}
use Rattle.book.specs.Opening.{at_par}
use Rattle.book.specs.Soundness.{record_fine, Sound}
use Rattle.book.specs.Checks.{Call, live, trades, dues, is_taken, taken, answer_of}
use Rattle.book.specs.Step.{with_open_par, pars_moved, trades_moved}
use Rattle.book.proofs.ListLaws.{all_keep, all_implied}
use Rattle.book.proofs.Dues.{due_or_none, held_range, dues_none}
use Rattle.book.proofs.Kept.{moved_blind}
use Rattle.book.proofs.Passed.{fine}
use Rattle.book.proofs.Pools.{brought_none}
use Rattle.image.specs.Images.{blank}
use Rattle.image.specs.Formed.{FormedTrade, FormedTrades}

-- ---- a trade past those that count has no weight
module _ (n : ℕ) where
  abbrev below : Pool → Bool
  below r = ltb r.trade n

  -- the lots of records of trades below a number are of such trades
  lots_below : (rs : List Pool) → all below rs ≡ true → all (λ (l : LiveLot). below l.first) (live_lots rs) ≡ true
  lots_below [] h = refl
  lots_below (r ∷ rs) h = go (live_lots rs) (lots_below rs (and_right (below r) (all below rs) h))
    where
      first : below r ≡ true
      first = and_left (below r) (all below rs) h

      go : (ls : List LiveLot) → all (λ (l : LiveLot). below l.first) ls ≡ true → all (λ (l : LiveLot). below l.first) (join_lot r ls) ≡ true
      go [] k = both (below r) true first refl
      go (l ∷ ls) k = by (same_lot l.first r)
        where
          rest : all (λ (l : LiveLot). below l.first) ls ≡ true
          rest = and_right (below l.first) (all (λ (l : LiveLot). below l.first) ls) k

          by : (b : Bool) → all (λ (l : LiveLot). below l.first) (cond b (record { first = r; rest = l.first ∷ l.rest } ∷ ls) (record { first = r; rest = [] } ∷ (l ∷ ls))) ≡ true
          by true = both (below r) _ first rest
          by false = both (below r) _ first k

  weight_none : (rs : List Pool) → all below rs ≡ true → (i : ℕ) → n ≤ i → trade_weight i rs ≡ 0
  unfolding trade_weight
  weight_none rs h i le =
      ap (sum_of live_weight)
      (keep_none (of_trade i) (live_lots rs)
      (λ l m. ne_eqb l.first.trade i (λ q. omega (arith, ltb-true l.first.trade n (all_out (λ (l : LiveLot). below l.first) m (lots_below rs h))))))

module _ (c : Call) (ok : is_accepted (answer_of c) ≡ true) (s : Sound c.book c.table) (i : ℕ) (past : c.book.values.lent.trade_count ≤ i) where
  taken_none : trade_weight i (taken c) ≡ 0
  taken_none =
      weight_none c.book.values.lent.trade_count (taken c)
      (all_keep (below c.book.values.lent.trade_count) (is_taken (target_of c.body) (listed c.body)) (live c)
      (all_implied (record_fine c.book.values) (below c.book.values.lent.trade_count) (λ r h. and_left (ltb r.trade c.book.values.lent.trade_count) _ h) (live c) s.records))
      i past

  due_none : due_weight i (dues c) ≡ 0
  unfolding due_weight
  due_none = go (brings_lots (type_of c.body)) refl
    where
      some : brings_lots (type_of c.body) ≡ true → ((d : Due) × (d ∈ dues c) × (d.to ≡ i)) ⊎ (sum_of (due_share i lot_weight) (dues c) ≡ 0) → sum_of (due_share i lot_weight) (dues c) ≡ 0
      some e (inl (d, m, q)) =
          let lt = held_range (trades c) (taken c) (dues c) ((fine c ok).par_enough e) d m in
          absurd (omega (arith, lt, q, length-take c.book.values.lent.trade_count c.book.values.trades))
      some e (inr z) = z

      go : (b : Bool) → brings_lots (type_of c.body) ≡ b → sum_of (due_share i lot_weight) (dues c) ≡ 0
      go true e = some e (due_or_none lot_weight i (dues c))
      go false e = ap (sum_of (due_share i lot_weight)) (dues_none c.body (trades c) (live c) (brought_none c.body e))

-- ---- trades whose open par moves stay formed
par_formed : (t : Trade) (cents : ℕ) → FormedTrade t → FormedTrade (with_open_par t cents)
par_formed t cents f = record { id = f.id; seller = f.seller; buyer = f.buyer; contra = f.contra; cusip = f.cusip }

module _ (off : List Pool) (ds : List Due) where
  moved_each : (i : ℕ) (ts : List Trade) → ((t : Trade) → t ∈ ts → FormedTrade t) → (t : Trade) → t ∈ pars_moved off ds i ts → FormedTrade t
  moved_each i [] h t m = absurd (Memᴰ.not-nil m)
  moved_each i (x ∷ ts) h t m = go (Memᴰ.cases_cons m) (moved_each (i + 1) ts (λ u k. h u (Memᴰ.tail k)) t)
    where
      cents : ℕ
      cents = (x.open_par + trade_weight i off) - due_weight i ds

      go : (t ≡ with_open_par x cents) ⊎ (t ∈ pars_moved off ds (i + 1) ts) → (t ∈ pars_moved off ds (i + 1) ts → FormedTrade t) → FormedTrade t
      go (inl e) below = rw e (par_formed x cents (h x (Memᴰ.head refl)))
      go (inr k) below = below k

  moved_spare : (i : ℕ) (ts : List Trade) (j : ℕ) → trade_weight (i + j) off ≡ 0 → due_weight (i + j) ds ≡ 0 → get_or ts j blank ≡ blank → get_or (pars_moved off ds i ts) j blank ≡ blank
  moved_spare i [] j w d h = h
  moved_spare i (t ∷ ts) zero w d h =
      let w₀ : trade_weight i off ≡ 0 = rw add-zero at w in
      let d₀ : due_weight i ds ≡ 0 = rw add-zero at d in
      rw (w₀, d₀, h)
  moved_spare i (t ∷ ts) (suc j) w d h =
      let e : i + suc j ≡ i + 1 + j = omega arith in
      moved_spare (i + 1) ts j (rw e at w) (rw e at d) h

-- after an accepted message
pub moved_formed : (c : Call) → is_accepted (answer_of c) ≡ true → Sound c.book c.table → FormedTrades c.book.values.trades c.book.values.lent.trade_count
    → FormedTrades (trades_moved c) c.book.values.lent.trade_count
unfolding trades_moved
moved_formed c ok s f =
    let ts : List Trade = c.book.values.trades in
    let moved : List Trade = pars_moved (taken c) (dues c) 0 ts in
    record {
      most = sym (length-map moved at_par) ∙ ap length (moved_blind at_par (λ t cents. refl) (taken c) (dues c) 0 ts) ∙ length-map ts at_par ∙ f.most;
      each = moved_each (taken c) (dues c) 0 ts f.each;
      spare = λ i h. moved_spare (taken c) (dues c) 0 ts i (rw zero-add (taken_none c ok s i h)) (rw zero-add (due_none c ok s i h)) (f.spare i h);
    }

-- and at par
pub opened_formed : (ts : List Trade) (count : ℕ) → FormedTrades ts count → FormedTrades (map at_par ts) count
opened_formed ts count f =
    record {
      most = length-map ts at_par ∙ f.most;
      each = λ t m. let (x, mx, ex) = Memᴰ.of_map at_par ts m in rw (← ex) (par_formed x x.par (f.each x mx));
      spare = λ i h. get_or-map at_par ts i blank ∙ ap at_par (f.spare i h);
    }
