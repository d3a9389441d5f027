-- Lots (01, "Terminators"): the pools of a message put together by their terminators, their weight, and check 19.
use Rattle.std.specs.Prelude.{ℕ, unwrap_or, ◌*◌, List, [], ◌∷◌, ◌++◌, Bool, true, cond, not, ◌&&◌, ◌||◌, length, eqb}
use Rattle.std.specs.Bool.{beq}
use Rattle.lists.specs.Lists.{sum_of, keep}
use Rattle.fields.specs.Fields.{read_number}
use Rattle.layout.specs.declared.Detail.{Detail}
use Rattle.layout.specs.Columns.{current_face}
use Rattle.terminator.specs.declared.Kind.{Kind}
use Rattle.terminator.specs.declared.Kind.TheVariants.{Good, Odd, Bad}
use Rattle.terminator.specs.Terminators.{digit_new, digit_canceled, digit_replacement, is_end, is_wrong, is_bad, kind_of, millions_of, one, term, is_replacement}

-- a lot: zero or more middles and one end
pub record Lot : Type 0 where
  pub middles : List Detail
  pub last : Detail

-- its pools, in the message's order
abbrev pub pools_of : Lot → List Detail
pools_of l = l.middles ++ (l.last ∷ [])

abbrev pub lot_kind : Lot → Kind
lot_kind l = kind_of (term l.last)

abbrev pub lot_millions : Lot → ℕ
lot_millions l = millions_of (term l.last)

-- the lots of a list of details, where ms are the middles since the last end; middles without an end make no lot
abbrev pub lots_from : List Detail → List Detail → List Lot
lots_from ms [] = []
lots_from ms (d ∷ ds) = cond (is_end (term d)) (record { middles = ms; last = d } ∷ lots_from [] ds) (lots_from (ms ++ (d ∷ [])) ds)

unfoldable pub lots : List Detail → List Lot
lots ds = lots_from [] ds

-- ---- weight
-- a pool's current face in cents, 0 where it is not digits (34 refuses that)
unfoldable pub current_cents : Detail → ℕ
current_cents d = unwrap_or (read_number d.current 0 current_face.width) 0

-- the cents of a million dollars
abbrev pub million_cents : ℕ
million_cents = 100000000

-- a good lot weighs its millions
abbrev pub weight_of : Kind → ℕ → ℕ → ℕ
weight_of Good millions faces = millions * million_cents
weight_of Odd millions faces = faces
weight_of Bad millions faces = faces

-- an odd or bad lot weighs the sum of its current faces
unfoldable pub lot_weight : Lot → ℕ
lot_weight l = weight_of (lot_kind l) (lot_millions l) (sum_of current_cents (pools_of l))

-- the good millions that a message's lots sum to
unfoldable pub good_millions : List Detail → ℕ
good_millions ds = sum_of lot_millions (lots ds)

-- ---- 19: every terminator is one of the list, its position one is one that the type has,
-- and a middle is followed by a pool of the same lot: the same position one, and bad or not as it is
abbrev pub goes_on : Detail → List Detail → Bool
goes_on d [] = is_end (term d)
goes_on d (e ∷ es) = is_end (term d) || (eqb (one d) (one e) && beq (is_bad (term d)) (is_bad (term e)))

abbrev pub lots_formed : (ℕ → Bool) → List Detail → Bool
lots_formed first [] = true
lots_formed first (d ∷ ds) = ((first (one d) && not (is_wrong (term d))) && goes_on d ds) && lots_formed first ds

-- position one is 0 on an ON
abbrev pub first_on : ℕ → Bool
first_on b = eqb b digit_new

-- position one is 6 or 7 on a CC
abbrev pub first_cc : ℕ → Bool
first_cc b = eqb b digit_canceled || eqb b digit_replacement

-- 19 of an ON, and of a CC
unfoldable pub formed_for : Bool → List Detail → Bool
formed_for cc ds = lots_formed (cond cc first_cc first_on) ds

-- 22: the replacement count is that of the pools that begin with 7, which after 19 are the new pools of a CC
unfoldable pub replacement_count : List Detail → ℕ
replacement_count ds = length (keep is_replacement ds)
