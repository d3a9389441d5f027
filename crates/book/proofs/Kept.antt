-- The values of a book stay in range: opening's rules look at no open par, the last message ID is not the highest when a message is accepted (43),
-- and the outbound number stops at its highest.
use Prim.Native.Nat.{ℕ, zero, suc, ◌+◌, ◌-◌, ◌<◌}
use mathlib.Core.Path.{◌≡◌, refl, sym, ap, ap₂, ◌∙◌}
use mathlib.Core.List.{List, [], ◌∷◌, map}
use mathlib.Core.Bool.{Bool, true, false, cond, not, ◌&&◌}
use native.Mathlib.Omega.{arith}
use lib.Dec.{eqb, leb, ltb}
use lib.ListN.{take, get_or, set}
use borrow.Author.Tests.{ltb-true, le-leb, eq-eqb, ne_eqb}
use Rattle.lists.specs.Lists.{all}
use Rattle.lists.proofs.Tests.{and_left, and_right}
use Rattle.calendar.specs.Calendar.{is_date}
use Rattle.sequence.specs.declared.Line.{Line}
use Rattle.sequence.specs.declared.Outbound.{Outbound}
use Rattle.sequence.specs.Sequence.{next_outbound, outbound_max, outbound}
use Rattle.book.specs.declared.Trade.{Trade}
use Rattle.book.specs.declared.Values.{Values}
use Rattle.book.specs.declared.Pool.{Pool}
use Rattle.book.specs.Dues.{Due, due_weight}
use Rattle.book.specs.Records.{trade_weight}
use Rattle.book.specs.Trades.{trades_of, trade_name}
use Rattle.book.specs.Opening.{trades_max, holidays_max, eleven_digits_max, holidays_of, limits_fine, account_fine, trade_fine, names_repeat, values_fine}
use Rattle.book.specs.Checks.{no_trade}
use Rattle.book.specs.Step.{with_open_par, trade_moved, pars_moved}
use Rattle.book.proofs.ListLaws.{all_of_map}

-- ---- trades
-- the first trades move as they do among all
pub take_moved : (off : List Pool) (ds : List Due) (i n : ℕ) (ts : List Trade) → take n (pars_moved off ds i ts) ≡ pars_moved off ds i (take n ts)
take_moved off ds i zero ts = refl
take_moved off ds i (suc n) [] = refl
take_moved off ds i (suc n) (t ∷ ts) = ap (λ (xs : List Trade). trade_moved off ds i t ∷ xs) (take_moved off ds (i + 1) n ts)

-- what looks at no open par sees no change where these move
module _ {B : Type 0} (f : Trade → B) (blind : (t : Trade) (cents : ℕ) → f (with_open_par t cents) ≡ f t) (off : List Pool) (ds : List Due) where
  pub moved_blind : (i : ℕ) (ts : List Trade) → map f (pars_moved off ds i ts) ≡ map f ts
  moved_blind i [] = refl
  moved_blind i (t ∷ ts) = ap₂ (λ (x : B) (xs : List B). x ∷ xs) (blind t _) (moved_blind (i + 1) ts)

-- where one trade has all that goes and comes, it alone moves
module _ (off : List Pool) (ds : List Due) (t n m : ℕ) (goes : (u : ℕ) → trade_weight u off ≡ cond (eqb t u) n 0) (comes : (u : ℕ) → due_weight u ds ≡ cond (eqb t u) m 0) where
  abbrev one : Trade → Trade
  one x = with_open_par x ((x.open_par + n) - m)

  here : (i : ℕ) → t ≡ i → (x : Trade) → trade_moved off ds i x ≡ one x
  here i e x = rw (goes i, comes i, eq-eqb t i e)

  elsewhere : (i : ℕ) → (t ≡ i → ⊥) → (x : Trade) → trade_moved off ds i x ≡ x
  elsewhere i e x =
      let z : (x.open_par + 0) - 0 ≡ x.open_par = omega arith in
      rw (goes i, comes i, ne_eqb t i e) (ap (with_open_par x) z)

  after_it : (i : ℕ) → t < i → (ts : List Trade) → ts ≡ pars_moved off ds i ts
  after_it i lt [] = refl
  after_it i lt (x ∷ ts) = ap₂ (λ (y : Trade) (ys : List Trade). y ∷ ys) (sym (elsewhere i (λ e. omega arith) x)) (after_it (i + 1) (omega arith) ts)

  from_there : (i j : ℕ) → t ≡ i + j → (ts : List Trade) → set ts j (one (get_or ts j no_trade)) ≡ pars_moved off ds i ts
  from_there i j e [] = refl
  from_there i zero e (x ∷ ts) = ap₂ (λ (y : Trade) (ys : List Trade). y ∷ ys) (sym (here i (omega arith) x)) (after_it (i + 1) (omega arith) ts)
  from_there i (suc j) e (x ∷ ts) = ap₂ (λ (y : Trade) (ys : List Trade). y ∷ ys) (sym (elsewhere i (λ q. omega arith) x)) (from_there (i + 1) j (omega arith) ts)

  pub moved_one : (ts : List Trade) → set ts t (one (get_or ts t no_trade)) ≡ pars_moved off ds 0 ts
  moved_one ts = from_there 0 t (omega arith) ts

all_bits : {A : Type 0} (p : A → Bool) (xs : List A) → all (λ (b : Bool). b) (map p xs) ≡ all p xs
all_bits p xs = all_of_map (λ (b : Bool). b) p xs

-- whether trades are in range and have different IDs
abbrev trades_fine : List ℕ → List Trade → Bool
trades_fine holidays ts = all (trade_fine holidays) ts && not (names_repeat (map trade_name ts))

-- trades that look alike are alike in range
pub trades_alike : (holidays : List ℕ) (ts us : List Trade) → map (trade_fine holidays) ts ≡ map (trade_fine holidays) us → map trade_name ts ≡ map trade_name us
    → trades_fine holidays ts ≡ trades_fine holidays us
trades_alike holidays ts us e f =
    ap₂ (λ (a b : Bool). a && b) (sym (all_bits (trade_fine holidays) ts) ∙ ap (all (λ (b : Bool). b)) e ∙ all_bits (trade_fine holidays) us)
    (ap (λ (ns : List (List ℕ)). not (names_repeat ns)) f)

-- ---- values
exchanged : (a b d e g f o t : Bool) → (a && (b && (d && (e && (g && (f && (o && t))))))) ≡ true → (f' o' t' : Bool) → f' ≡ true → o' ≡ true → t' ≡ t
    → (a && (b && (d && (e && (g && (f' && (o' && t'))))))) ≡ true
exchanged true true true true true f o t h f' o' t' p q r = rw (p, q, r) (and_right o t (and_right f (o && t) h))
exchanged false b d e g f o t h f' o' t' p q r = h
exchanged true false d e g f o t h f' o' t' p q r = h
exchanged true true false e g f o t h f' o' t' p q r = h
exchanged true true true false g f o t h f' o' t' p q r = h
exchanged true true true true false f o t h f' o' t' p q r = h

-- values with other trades, last message ID, line and last outbound number
abbrev pub exchange : Values → List Trade → ℕ → Line → Outbound → Values
exchange v ts last l o =
    record {
      trades = ts;
      lent = v.lent;
      last_message_id = last;
      connection = record { id = v.connection.id; line = l; outbound = o };
    }

pub values_stay : (v : Values) (ts : List Trade) (last : ℕ) (l : Line) (o : Outbound) → values_fine v ≡ true → leb last eleven_digits_max ≡ true → leb o.0 outbound_max ≡ true
    → trades_fine (holidays_of v) (take v.lent.trade_count ts) ≡ trades_fine (holidays_of v) (trades_of v) → values_fine (exchange v ts last l o) ≡ true
unfolding values_fine
values_stay v ts last l o e p q r =
    exchanged (leb v.lent.trade_count trades_max && leb v.lent.holiday_count holidays_max) (all is_date (holidays_of v)) (account_fine v.lent.subscriber) (account_fine v.connection.id) (limits_fine v.lent.limits)
    (leb v.last_message_id eleven_digits_max) (leb v.connection.outbound.0 outbound_max) (trades_fine (holidays_of v) (trades_of v)) e
    (leb last eleven_digits_max) (leb o.0 outbound_max) (trades_fine (holidays_of v) (take v.lent.trade_count ts)) p q r

module _ (v : Values) (e : values_fine v ≡ true) where
  ranges : (leb v.last_message_id eleven_digits_max && (leb v.connection.outbound.0 outbound_max && trades_fine (holidays_of v) (trades_of v))) ≡ true
  unfolding values_fine
  ranges =
      past (limits_fine v.lent.limits) (past (account_fine v.connection.id) (past (account_fine v.lent.subscriber) (past (all is_date (holidays_of v))
      (past (leb v.lent.trade_count trades_max && leb v.lent.holiday_count holidays_max) e))))
    where
      past : (a : Bool) {b : Bool} → (a && b) ≡ true → b ≡ true
      past a {b} h = and_right a b h

  pub last_within : leb v.last_message_id eleven_digits_max ≡ true
  last_within = and_left (leb v.last_message_id eleven_digits_max) (leb v.connection.outbound.0 outbound_max && trades_fine (holidays_of v) (trades_of v)) ranges

  pub outbound_within : leb v.connection.outbound.0 outbound_max ≡ true
  outbound_within =
      and_left (leb v.connection.outbound.0 outbound_max) (trades_fine (holidays_of v) (trades_of v))
      (and_right (leb v.last_message_id eleven_digits_max) (leb v.connection.outbound.0 outbound_max && trades_fine (holidays_of v) (trades_of v)) ranges)

-- ---- the outbound number stops at its highest
pub next_within : (o : Outbound) → leb o.0 outbound_max ≡ true → leb (next_outbound o).0 outbound_max ≡ true
unfolding next_outbound
next_within o e = go (ltb o.0 outbound_max) refl
  where
    go : (b : Bool) → ltb o.0 outbound_max ≡ b → leb (cond b (outbound (o.0 + 1)) o).0 outbound_max ≡ true
    go true f =
        let h : o.0 < outbound_max = ltb-true o.0 outbound_max f in
        le-leb (o.0 + 1) outbound_max (omega arith)
    go false f = e
