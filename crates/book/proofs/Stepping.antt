-- What the checks of an accepted ON, CC or DK give is what its move asks for; and the lots that the history makes of the message are those of the move.
use Rattle.std.specs.Prelude.{Option}
use mathlib.Core.Path.{◌≡◌, refl, sym, ap, ◌∙◌}
use mathlib.Core.Bool.{Bool, true, false, cond, and-false}
use mathlib.Core.List.Memᴰ
use mathlib.Core.List.{List, [], ◌∷◌, map}
use Prim.Native.Nat.{ℕ, ◌+◌}
use native.Mathlib.Omega.{arith}
use native.Mathlib.Nat.{add-zero}
use native.Mathlib.Decide.{ℕ_discrete}
use lib.Dec.{eqb}
use lib.ListN.{length, length-map}
use borrow.Author.Tests.{eq-eqb, ne_eqb}
use Rattle.lists.specs.Lists.{keep, any, all, sum_of}
use Rattle.lists.proofs.Tests.{◌∈◌, cond_zero, all_in, any_none, sum_same, sum_zero}
use Rattle.layout.specs.Details.{details}
use Rattle.terminator.specs.Lots.{Lot, pools_of, lot_millions, formed_for}
use Rattle.terminator.specs.Groups.{groups, groups_formed, groups_balanced}
use Rattle.faces.specs.Faces.{new_pools}
use Rattle.message_type.specs.declared.MessageType.TheVariants.{On, Cc, Dk}
use Rattle.trade_id.specs.declared.TradeId.{TradeId}
use Rattle.trade_id.specs.declared.TradeId.TheVariants.{Whole, Broken, Absent}
use Rattle.book.specs.declared.Trade.{Trade}
use Rattle.book.specs.declared.Values.{Values}
use Rattle.book.specs.declared.Pool.{Pool}
use Rattle.message_type.specs.Questions.{is_on, brings_lots}
use Rattle.book.specs.Dues.{due, due_share, due_weight}
use Rattle.book.specs.Records.{fields_of, distinct}
use Rattle.book.specs.Messages.{type_of, id_in, target_of, under, listed, brought}
use Rattle.book.specs.Trades.{trades_of, agrees, first_trade, may_take, trade_of_on, open_pars}
use Rattle.book.specs.Opening.{at_par}
use Rattle.book.specs.Checks.{target_trade, trade_due, dues_by, is_taken, canceled_lots, dues_fit}
use Rattle.book.specs.History.{Brought, History, is_target, touches, take_off, trade_share, stands, fields_of_lots, due_by_groups, lots_after}
use Rattle.book.proofs.Dues.{due_lots, sum_due, held_range, held_room, dues_lots, dues_all, dues_none, dues_on, dues_target}
use Rattle.book.proofs.ByRecord.{exact_by_record, one_by_record}
use Rattle.book.proofs.Pools.{replacement_of, listed_as, brought_new, brought_none, lots_formed_fields, canceled_fields, groups_canceled, groups_new}
use Rattle.book.proofs.Taking.{Exact, exact, is_listed, touches_target, gone, gone_there, gone_elsewhere, target_trade_law}
use Rattle.book.proofs.Moving.{Beside, Move, same_opens, moved_lots}
use Rattle.book.proofs.Substituting.{gone_canceled, due_there, groups_even}

-- ---- a message that lists nothing touches nothing

touches_none : (tgt : Option ℕ) (h : Brought) → touches tgt [] h ≡ false
touches_none tgt h = rw (any_none (is_listed []) (pools_of h.lot) (λ d. refl)) (and-false (is_target tgt h.id))

gone_none : (tgt : Option ℕ) (v : Lot → ℕ) (u : ℕ) (hs : List Brought) → sum_of (trade_share u (gone tgt [] v)) hs ≡ 0
gone_none tgt v u hs =
    sum_same (trade_share u (gone tgt [] v)) (λ h. 0) hs (λ h m. rw (touches_none tgt h, and-false (stands h)) (cond_zero (eqb h.trade u))) ∙ sum_zero hs

take_none : (tgt : Option ℕ) (hs : List Brought) → map (take_off false tgt []) hs ≡ hs
take_none tgt [] = refl
take_none tgt (h ∷ hs) = rw (take_none tgt hs, touches_none tgt h, add-zero h.offs, add-zero h.dks)

exact_none : (tgt : Option ℕ) (rs : List Pool) → Exact tgt [] rs
exact_none tgt rs = record { live = refl; distinct = refl; whole = all_in _ rs (λ r m. rw (and-false (under tgt r))) }

-- ---- the trade that an ON goes to does not depend on the trades' open pars but for those that it is given

agrees_at_par : (body : List ℕ) (t : Trade) → agrees body (at_par t) ≡ agrees body t
unfolding agrees
agrees_at_par body t = refl

may_at_par : (body : List ℕ) (id : TradeId) (t : Trade) (left : ℕ) → may_take body id (at_par t) left ≡ may_take body id t left
may_at_par body (Whole place n) t left = refl
may_at_par body Broken t left = refl
may_at_par body Absent t left = rw (agrees_at_par body t)

first_at_par : (body : List ℕ) (id : TradeId) (i : ℕ) (ts : List Trade) (os : List ℕ) → first_trade (may_take body id) i (map at_par ts) os ≡ first_trade (may_take body id) i ts os
first_at_par body id i [] os = refl
first_at_par body id i (t ∷ ts) [] = ap (λ (n : ℕ). i + n) (length-map (t ∷ ts) at_par)
first_at_par body id i (t ∷ ts) (o ∷ os) = rw (may_at_par body id t o, first_at_par body id (i + 1) ts os)

same_trade : (body : List ℕ) (os : List ℕ) (ts us : List Trade) → map at_par ts ≡ map at_par us → trade_of_on body ts os ≡ trade_of_on body us os
unfolding trade_of_on
same_trade body os ts us e =
    sym (first_at_par body (id_in body) 0 ts os) ∙ ap (λ (xs : List Trade). first_trade (may_take body (id_in body)) 0 xs os) e ∙ first_at_par body (id_in body) 0 us os

-- ---- the moves of the three types

module _ (v : Values) (last : ℕ) (ts : List Trade) (rs : List Pool) (h : History) (w : Beside v last ts rs h) (body : List ℕ) where
  -- what 36 and 38 give of the new lots
  new_apart : brings_lots (type_of body) ≡ true → (cc : Bool) → formed_for cc (details body) ≡ true → distinct (map fields_of (new_pools (details body))) ≡ true
      → distinct (fields_of_lots (due_lots (dues_by body ts rs))) ≡ true
  new_apart b cc fo di = rw (dues_lots body ts rs, brought_new body b, lots_formed_fields cc (details body) fo) di

  -- an ON
  pub on_move : type_of body ≡ On → (cc : Bool) → formed_for cc (details body) ≡ true → distinct (map fields_of (new_pools (details body))) ≡ true
      → dues_fit ts (keep (is_taken (target_of body) (listed body)) rs) (dues_by body ts rs) ≡ true
      → Move ts rs h.lots (target_of body) (listed body) (dues_by body ts rs) true false
  on_move e cc fo di ho =
      record {
        exact = rw (listed_as body On e) (exact_none (target_of body) rs);
        range = held_range ts (keep (is_taken (target_of body) (listed body)) rs) (dues_by body ts rs) ho;
        one = (trade_due body ts rs, dues_all body ts rs);
        room = held_room ts (keep (is_taken (target_of body) (listed body)) rs) (dues_by body ts rs) ho;
        apart = new_apart (ap brings_lots e) cc fo di;
        even = λ u. rw (listed_as body On e, gone_none (target_of body) lot_millions u h.lots);
      }

  pub on_lots : type_of body ≡ On
      → moved_lots h.last_message_id h.lots (target_of body) (listed body) (dues_by body ts rs) true false ≡ lots_after On v (h.last_message_id + 1) body h.lots
  on_lots e =
      rw (dues_on body ts rs (ap is_on e), same_opens v last ts rs h w, same_trade body (open_pars ts) (trades_of v) ts (sym w.terms), listed_as body On e, take_none (target_of body) h.lots)

  -- a CC or DK: its lots are of the target's trade
  module _ (un : any (under (target_of body)) rs ≡ true) (ex : exact_by_record (target_of body) (listed body) rs ≡ true) where
    target_there : (g : Brought) → g ∈ h.lots → is_target (target_of body) g.id ≡ true → g.trade ≡ target_trade body rs
    unfolding target_trade
    target_there = rw w.table (target_trade_law (length (trades_of v)) h.last_message_id (target_of body) h.lots w.lots (rw w.table at un))

    listed_there : (g : Brought) → g ∈ h.lots → touches (target_of body) (listed body) g ≡ true → g.trade ≡ target_trade body rs
    listed_there g m q = target_there g m (touches_target (target_of body) (listed body) g q)

    -- a DK
    dk_dues : type_of body ≡ Dk → dues_by body ts rs ≡ []
    dk_dues e = dues_none body ts rs (brought_none body (ap brings_lots e))

    pub dk_move : type_of body ≡ Dk → Move ts rs h.lots (target_of body) (listed body) (dues_by body ts rs) false true
    unfolding due_weight
    dk_move e =
        record {
          exact = exact (target_of body) (listed body) rs ex;
          range = rw (dk_dues e) (λ d m. absurd (Memᴰ.not-nil m));
          one = (trade_due body ts rs, dues_all body ts rs);
          room = λ u. rw (dk_dues e) (omega arith);
          apart = rw (dk_dues e);
          even = λ u. rw (dk_dues e);
        }

    pub dk_lots : type_of body ≡ Dk
        → moved_lots h.last_message_id h.lots (target_of body) (listed body) (dues_by body ts rs) false true ≡ lots_after Dk v (h.last_message_id + 1) body h.lots
    dk_lots e = rw (dk_dues e)

    -- a CC
    module _ (e : type_of body ≡ Cc) (cc : Bool) (fo : formed_for cc (details body) ≡ true) where
      listed_canceled : listed body ≡ fields_of_lots (canceled_lots (details body))
      listed_canceled = listed_as body Cc e ∙ sym (canceled_fields cc (details body) fo)

      brought_replaces : replacement_of (groups (details body)) ≡ brought body
      brought_replaces = groups_new (details body) ∙ sym (brought_new body (ap brings_lots e))

      cc_gone : groups_balanced (details body) ≡ true → all (one_by_record (target_of body) rs) (canceled_lots (details body)) ≡ true
          → sum_of (gone (target_of body) (listed body) lot_millions) h.lots ≡ sum_of lot_millions (brought body)
      unfolding groups_balanced
      cc_gone ba on =
          rw listed_canceled
          (gone_canceled (length (trades_of v)) h.last_message_id (target_of body) h.lots w.lots (canceled_lots (details body))
          (rw (w.table, listed_canceled) at (exact (target_of body) (listed body) rs ex).live) (rw listed_canceled at (exact (target_of body) (listed body) rs ex).distinct) (rw w.table at on))
          ∙ ap (sum_of lot_millions) (sym (groups_canceled (details body)))
          ∙ groups_even (groups (details body)) ba
          ∙ ap (sum_of lot_millions) brought_replaces

      -- for each trade what goes has the millions of what comes
      cc_even : groups_balanced (details body) ≡ true → all (one_by_record (target_of body) rs) (canceled_lots (details body)) ≡ true
          → (u : ℕ) → sum_of (due_share u lot_millions) (dues_by body ts rs) ≡ sum_of (trade_share u (gone (target_of body) (listed body) lot_millions)) h.lots
      cc_even ba on u =
          rw (dues_target body ts rs (ap is_on e)) (sum_due (target_trade body rs) lot_millions u (brought body)) ∙ go (ℕ_discrete u (target_trade body rs))
        where
          go : Dec (u ≡ target_trade body rs) → cond (eqb (target_trade body rs) u) (sum_of lot_millions (brought body)) 0 ≡ sum_of (trade_share u (gone (target_of body) (listed body) lot_millions)) h.lots
          go (yes q) =
              rw (q, eq-eqb (target_trade body rs) (target_trade body rs) refl)
              (sym (gone_there (target_of body) (listed body) h.lots lot_millions (target_trade body rs) listed_there ∙ cc_gone ba on))
          go (no q) =
              rw (ne_eqb (target_trade body rs) u (λ p. q (sym p)))
              (sym (gone_elsewhere (target_of body) (listed body) h.lots lot_millions (target_trade body rs) u listed_there q))

      pub cc_move : distinct (map fields_of (new_pools (details body))) ≡ true → groups_balanced (details body) ≡ true
          → all (one_by_record (target_of body) rs) (canceled_lots (details body)) ≡ true
          → dues_fit ts (keep (is_taken (target_of body) (listed body)) rs) (dues_by body ts rs) ≡ true
          → Move ts rs h.lots (target_of body) (listed body) (dues_by body ts rs) false false
      cc_move di ba on ho =
          record {
            exact = exact (target_of body) (listed body) rs ex;
            range = held_range ts (keep (is_taken (target_of body) (listed body)) rs) (dues_by body ts rs) ho;
            one = (trade_due body ts rs, dues_all body ts rs);
            room = held_room ts (keep (is_taken (target_of body) (listed body)) rs) (dues_by body ts rs) ho;
            apart = new_apart (ap brings_lots e) cc fo di;
            even = λ u. omega (arith, cc_even ba on u);
          }

      cc_due : groups_formed (details body) ≡ true → due_by_groups (target_of body) h.lots (groups (details body)) ≡ dues_by body ts rs
      unfolding groups_formed
      cc_due gf =
          due_there (length (trades_of v)) h.last_message_id (target_of body) h.lots w.lots (target_trade body rs) target_there
          (listed body) (rw w.table at (exact (target_of body) (listed body) rs ex).live) (groups (details body)) gf
          (λ f m. rw (listed_canceled, ← groups_canceled (details body)) m)
          ∙ ap (map (due (target_trade body rs))) brought_replaces
          ∙ sym (dues_target body ts rs (ap is_on e))

      pub cc_lots : groups_formed (details body) ≡ true
          → moved_lots h.last_message_id h.lots (target_of body) (listed body) (dues_by body ts rs) false false ≡ lots_after Cc v (h.last_message_id + 1) body h.lots
      cc_lots gf = rw (cc_due gf)
