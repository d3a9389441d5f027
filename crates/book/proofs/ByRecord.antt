-- 37 record by record, as the code decides it: each listed pool is live under the target, none is listed twice, and a lot of which a pool is listed is listed whole.
use Rattle.std.specs.Prelude.{Option}
use Prim.Native.Nat.{ℕ}
use mathlib.Core.List.{List, [], ◌∷◌}
use mathlib.Core.Bool.{Bool, not, ◌&&◌, ◌||◌}
use lib.Dec.{eqb}
use Rattle.lists.specs.Lists.{keep, any, all}
use Rattle.layout.specs.Details.{details}
use Rattle.terminator.specs.Lots.{Lot, lot_kind, lot_millions}
use Rattle.book.specs.declared.Pool.{Pool}
use Rattle.book.specs.Records.{Fields, live_fields, same_fields, distinct, kind_number, same_lot}
use Rattle.book.specs.Messages.{type_of, target_of, under, listed}
use Rattle.book.specs.Checks.{is_taken, lot_fields, canceled_lots}
use Rattle.message_type.specs.Questions.{is_cc}

abbrev pub all_live : Option ℕ → List Fields → List Pool → Bool
all_live tgt fs rs = all (λ (f : Fields). any (λ (r : Pool). under tgt r && same_fields (live_fields r) f) rs) fs

abbrev pub whole_lots : Option ℕ → List Fields → List Pool → Bool
whole_lots tgt fs rs =
    all (λ (r : Pool). not (is_taken tgt fs r) || all (λ (s : Pool). not (same_lot r s) || is_taken tgt fs s) rs) rs

abbrev pub exact_by_record : Option ℕ → List Fields → List Pool → Bool
exact_by_record tgt fs rs = all_live tgt fs rs && (distinct fs && whole_lots tgt fs rs)

-- of a CC: the records of a 6 lot have one ordinal, and its kind and millions
abbrev pub first_ordinal : List Pool → ℕ
first_ordinal [] = 0
first_ordinal (r ∷ rs) = r.ordinal

abbrev pub one_by_record : Option ℕ → List Pool → Lot → Bool
one_by_record tgt rs l =
    whole_lots tgt (lot_fields l) rs
    && all (λ (r : Pool). eqb r.ordinal (first_ordinal (keep (is_taken tgt (lot_fields l)) rs)) && (eqb r.kind (kind_number (lot_kind l)) && eqb r.millions (lot_millions l)))
    (keep (is_taken tgt (lot_fields l)) rs)

abbrev pub listed_by_record : List ℕ → List Pool → Bool
listed_by_record body rs =
    exact_by_record (target_of body) (listed body) rs
    && (not (is_cc (type_of body)) || all (one_by_record (target_of body) rs) (canceled_lots (details body)))
