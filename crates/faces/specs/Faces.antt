-- The faces of a message's pools: checks 34 and 35, and the weight of its new lots (01, "The trader").
use Rattle.std.specs.Prelude.{ℕ, is_some, ◌*◌, List, Bool, not, ◌&&◌, ◌||◌, length, ltb}
use Rattle.std.specs.Int.{abs_diff}
use Rattle.lists.specs.Lists.{keep, any, sum_of, between}
use Rattle.fields.specs.Fields.{read_number, holds}
use Rattle.layout.specs.declared.Detail.{Detail}
use Rattle.layout.specs.Columns.{original_face, current_face}
use Rattle.terminator.specs.Terminators.{is_good}
use Rattle.terminator.specs.Lots.{Lot, pools_of, lot_kind, lot_millions, lots, current_cents, million_cents, lot_weight}
use Rattle.terminator.specs.Groups.{lot_canceled}
pub use Rattle.terminator.specs.Terminators.{is_new}

-- ---- the new pools and lots of a message: an ON's, and a CC's that are not canceled
abbrev pub is_new_lot : Lot → Bool
is_new_lot l = not (lot_canceled l)

abbrev pub new_pools : List Detail → List Detail
new_pools ds = keep is_new ds

abbrev pub new_lots : List Detail → List Lot
new_lots ds = keep is_new_lot (lots ds)

-- ---- 34: the highest original face, in whole dollars
abbrev pub original_most : ℕ
original_most = 50000000

-- 34 of one pool: both faces must be digits, and the original face from the least to the highest
unfoldable pub face_fails : ℕ → Detail → Bool
face_fails least d =
    not (is_some (read_number d.current 0 current_face.width) && holds (between least original_most) (read_number d.matched.original 0 original_face.width))

-- 34 of a message: some new pool fails it
unfoldable pub faces_fail : ℕ → List Detail → Bool
faces_fail least ds = any (face_fails least) (new_pools ds)

-- ---- 35: a good lot's sum of current faces is off its weight by more than the variance (in cents) for each million, or it has too many pools for its millions
unfoldable pub good_lot_fails : ℕ → ℕ → ℕ → ℕ → ℕ → Bool
good_lot_fails sum pools millions variance pools_a_million =
    ltb (variance * millions) (abs_diff sum (millions * million_cents)) || ltb (pools_a_million * millions) pools

-- 35 of one lot: only good lots are held to it
unfoldable pub lot_fails : ℕ → ℕ → Lot → Bool
lot_fails variance pools_a_million l =
    is_good (lot_kind l) && good_lot_fails (sum_of current_cents (pools_of l)) (length (pools_of l)) (lot_millions l) variance pools_a_million

-- 35 of a message: some new lot fails it
unfoldable pub lots_fail : ℕ → ℕ → List Detail → Bool
lots_fail variance pools_a_million ds = any (lot_fails variance pools_a_million) (new_lots ds)

-- ---- 38: the weight that a message brings is that of its new lots
unfoldable pub new_weight : List Detail → ℕ
new_weight ds = sum_of lot_weight (new_lots ds)
