-- The history (01, "The book"): what was brought and taken off, read from the messages alone. It is fed opening's values, then each call's body
-- and whether it was accepted; nothing here has a book or a table in its type.
use Rattle.std.specs.Prelude.{Option}
use Rattle.std.specs.Prelude.{ℕ, ◌+◌, ◌-◌, ◌*◌, List, [], ◌∷◌, ◌++◌, map, Bool, true, false, cond, ◌&&◌, eqb}
use Rattle.lists.specs.Lists.{any, keep, sum_of}
use Rattle.fields.specs.Fields.{holds}
use Rattle.layout.specs.declared.Detail.{Detail}
use Rattle.layout.specs.Details.{details}
use Rattle.terminator.specs.Lots.{Lot, pools_of, lot_millions, lot_weight}
use Rattle.terminator.specs.Groups.{Group, groups}
use Rattle.message_type.specs.declared.MessageType.{MessageType}
use Rattle.message_type.specs.Questions.{is_on, is_cc, is_dk, lists_lots}
use Rattle.book.specs.declared.Trade.{Trade}
use Rattle.book.specs.declared.Values.{Values}
use Rattle.book.specs.Dues.{Due, due}
use Rattle.book.specs.Records.{Fields, fields_of, has_fields}
use Rattle.book.specs.Messages.{type_of, target_of, listed, brought}
use Rattle.book.specs.Trades.{trades_of, trade_of_on}

-- a lot that an accepted message brought: under which ID, its ordinal there, to which trade, by an ON or not;
-- and how often it was taken off, and how often by a DK
pub record Brought : Type 0 where
  pub id : ℕ
  pub ordinal : ℕ
  pub trade : ℕ
  pub lot : Lot
  pub by_on : Bool
  pub offs : ℕ
  pub dks : ℕ

-- the last message ID, and the lots brought, in the order of their coming
pub record History : Type 0 where
  pub last_message_id : ℕ
  pub lots : List Brought

-- opening's last ID, and no lots
abbrev pub at_opening : Values → History
at_opening v = record { last_message_id = v.last_message_id; lots = [] }

-- ---- taking off
abbrev pub is_target : Option ℕ → ℕ → Bool
is_target tgt id = holds (eqb id) tgt

-- a lot under the target with a pool whose matched fields are listed
abbrev pub touches : Option ℕ → List Fields → Brought → Bool
touches tgt fs h = is_target tgt h.id && any (λ (d : Detail). has_fields (fields_of d) fs) (pools_of h.lot)

abbrev pub once : Bool → ℕ
once true = 1
once false = 0

-- a lot after a message: taken off once more where it is touched, even one already off
abbrev pub take_off : Bool → Option ℕ → List Fields → Brought → Brought
take_off by_dk tgt fs h =
    record {
      id = h.id;
      ordinal = h.ordinal;
      trade = h.trade;
      lot = h.lot;
      by_on = h.by_on;
      offs = h.offs + once (touches tgt fs h);
      dks = h.dks + once (by_dk && touches tgt fs h);
    }

-- ---- bringing
-- new lots under an ID, with ordinals from a number on
abbrev pub bring : ℕ → Bool → ℕ → List Due → List Brought
bring id by_on ordinal [] = []
bring id by_on ordinal (d ∷ ds) =
    record { id = id; ordinal = ordinal; trade = d.to; lot = d.lot; by_on = by_on; offs = 0; dks = 0 } ∷ bring id by_on (ordinal + 1) ds

-- ---- a trade's sums
abbrev pub stands : Brought → Bool
stands h = eqb h.offs 0

abbrev pub trade_share : ℕ → (Brought → ℕ) → Brought → ℕ
trade_share t share h = cond (eqb h.trade t) (share h) 0

-- the weights of its lots that were not taken off
unfoldable pub standing_weight : ℕ → List Brought → ℕ
standing_weight t hs = sum_of (trade_share t (λ (h : Brought). cond (stands h) (lot_weight h.lot) 0)) hs

-- the good millions that ONs brought to it
unfoldable pub millions_by_ons : ℕ → List Brought → ℕ
millions_by_ons t hs = sum_of (trade_share t (λ (h : Brought). cond h.by_on (lot_millions h.lot) 0)) hs

-- the good millions that DKs took off it
unfoldable pub millions_by_dks : ℕ → List Brought → ℕ
millions_by_dks t hs = sum_of (trade_share t (λ (h : Brought). h.dks * lot_millions h.lot)) hs

-- the history sum: a trade's open par is its opening par less the weights of its lots not taken off
abbrev pub history_sums : ℕ → List Trade → List Brought → List ℕ
history_sums i [] hs = []
history_sums i (t ∷ ts) hs = (t.par - standing_weight i hs) ∷ history_sums (i + 1) ts hs

-- ---- an accepted message
-- a CC's new lots go to the trade of the lots that their group takes off
abbrev pub trade_of_first : List Brought → ℕ
trade_of_first [] = 0
trade_of_first (h ∷ hs) = h.trade

abbrev pub fields_of_lots : List Lot → List Fields
fields_of_lots [] = []
fields_of_lots (l ∷ ls) = map fields_of (pools_of l) ++ fields_of_lots ls

abbrev pub due_by_groups : Option ℕ → List Brought → List Group → List Due
due_by_groups tgt hs [] = []
due_by_groups tgt hs (g ∷ gs) =
    map (due (trade_of_first (keep (touches tgt (fields_of_lots g.canceled)) hs))) g.replacement ++ due_by_groups tgt hs gs

-- an ON's go to the trade that its rule gives for the history's open pars
abbrev pub due_by_rule : Values → List ℕ → List Brought → List Due
due_by_rule v body hs = map (due (trade_of_on body (trades_of v) (history_sums 0 (trades_of v) hs))) (brought body)

-- what a message takes off, and the lots that it brings, by its type
abbrev pub lots_off : MessageType → List ℕ → List Brought → List Brought
lots_off k body hs = cond (lists_lots k) (map (take_off (is_dk k) (target_of body) (listed body)) hs) hs

abbrev pub lots_due : MessageType → Values → List ℕ → List Brought → List Due
lots_due k v body hs = cond (is_on k) (due_by_rule v body hs) (cond (is_cc k) (due_by_groups (target_of body) hs (groups (details body))) [])

-- the lots after it: what it takes off goes first, then its new ones come under its ID
abbrev pub lots_after : MessageType → Values → ℕ → List ℕ → List Brought → List Brought
lots_after k v id body hs = lots_off k body hs ++ bring id (is_on k) 1 (lots_due k v body hs)

-- a refused call changes nothing; an accepted message gets the next ID
unfoldable pub feed : Values → History → List ℕ → Bool → History
feed v h body is_accepted =
    cond is_accepted (record { last_message_id = h.last_message_id + 1; lots = lots_after (type_of body) v (h.last_message_id + 1) body h.lots }) h

-- what the history is fed for one call
pub record Fed : Type 0 where
  pub body : List ℕ
  pub is_accepted : Bool

-- a list of them, from the first on
unfoldable pub history : Values → History → List Fed → History
history v h [] = h
history v h (f ∷ fs) = history v (feed v h f.body f.is_accepted) fs

-- whether a message takes a lot off
unfoldable pub takes_off : List ℕ → Brought → Bool
takes_off body h = lists_lots (type_of body) && touches (target_of body) (listed body) h
