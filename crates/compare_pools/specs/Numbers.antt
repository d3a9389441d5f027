-- Terminators, lots and a message's pools by their numbers: an enum's cases in its order, counted from 0, and what a case holds, 0 where it holds nothing.
use Rattle.std.specs.Prelude.{ℕ, List, [], ◌∷◌, Option, Some, None, true, false, cond, length, drop, eqb}
use Rattle.exports_numbers.specs.Bit.{bit}
use Rattle.layout.specs.declared.Detail.{Detail}
use Rattle.layout.specs.Columns.{terminator}
use Rattle.layout.specs.Details.{details, pool_count}
use Rattle.terminator.specs.declared.Terminator.{Terminator}
use Rattle.terminator.specs.declared.Terminator.TheVariants.{Middle, BadMiddle, GoodEnd, OddEnd, BadEnd, Wrong}
use Rattle.terminator.specs.declared.Kind.{Kind}
use Rattle.terminator.specs.declared.Kind.TheVariants.{Good, Odd, Bad}
use Rattle.terminator.specs.declared.LotHead.{LotHead}
use Rattle.terminator.specs.Terminators.{terminator_of}
use Rattle.terminator.specs.Lots.{lots, formed_for, replacement_count, good_millions}
use Rattle.terminator.specs.Reading.{first_lot}
use Rattle.terminator.specs.Groups.{groups_formed, groups_balanced}
use Rattle.faces.specs.Faces.{faces_fail, lots_fail, new_weight}

-- ---- a terminator: its case, and the millions of a good end
abbrev pub terminator_numbers : Terminator → List ℕ
terminator_numbers Middle = 0 ∷ 0 ∷ []
terminator_numbers BadMiddle = 1 ∷ 0 ∷ []
terminator_numbers (GoodEnd n) = 2 ∷ n ∷ []
terminator_numbers OddEnd = 3 ∷ 0 ∷ []
terminator_numbers BadEnd = 4 ∷ 0 ∷ []
terminator_numbers Wrong = 5 ∷ 0 ∷ []

-- the terminator in bytes of any length: what is not four bytes is wrong
unfoldable pub terminator_in : List ℕ → Terminator
terminator_in s = cond (eqb (length s) terminator.width) (terminator_of s) Wrong

-- ---- the lot that begins at a pool, by six numbers: whether there is one, its position one, its kind, its millions, its last pool by index, its weight in cents
-- the kinds in their order
abbrev pub kind_number : Kind → ℕ
kind_number Good = 0
kind_number Odd = 1
kind_number Bad = 2

-- no lot is six zeros
abbrev pub lot_numbers : Option LotHead → List ℕ
lot_numbers (Some l) = 1 ∷ l.one ∷ kind_number l.kind ∷ l.millions ∷ l.last ∷ l.weight ∷ []
lot_numbers None = 0 ∷ 0 ∷ 0 ∷ 0 ∷ 0 ∷ 0 ∷ []

-- the lot that begins at a pool of a body
abbrev pub lot_from : List ℕ → ℕ → Option LotHead
lot_from body first = first_lot first (lots (drop first (details body)))

-- ---- whether lots are formed as an ON's and as a CC's, and whether a CC's groups are formed and balanced
unfoldable pub form_numbers : List Detail → List ℕ
form_numbers ps = bit (formed_for false ps) ∷ bit (formed_for true ps) ∷ bit (groups_formed ps) ∷ bit (groups_balanced ps) ∷ []

-- ---- the pools of a body, those that replace, the good millions, and the weight of the new lots in cents
unfoldable pub sum_numbers : List ℕ → List ℕ
sum_numbers body = pool_count body ∷ replacement_count (details body) ∷ good_millions (details body) ∷ new_weight (details body) ∷ []

-- ---- whether faces fail 34, and lots 35
unfoldable pub face_numbers : ℕ → ℕ → ℕ → List Detail → List ℕ
face_numbers least variance pools ps = bit (faces_fail least ps) ∷ bit (lots_fail variance pools ps) ∷ []
