-- Terminators (01, "Terminators"; 001, section 3): what the four positions of one pool say.
use Rattle.std.specs.Prelude.{ℕ, Option, Some, None, List, Bool, true, false, cond, not, get_or, eqb, leb}
use Rattle.fields.specs.Fields.{read_number}
use Rattle.layout.specs.declared.Detail.{Detail}
use Rattle.terminator.specs.declared.Terminator.{Terminator}
use Rattle.terminator.specs.declared.Terminator.TheVariants.{Middle, BadMiddle, GoodEnd, OddEnd, BadEnd, Wrong}
use Rattle.terminator.specs.declared.Kind.{Kind}
use Rattle.terminator.specs.declared.Kind.TheVariants.{Good, Odd, Bad}

-- position one of an ON, of a CC's canceled and of its replacement pools: the digits 0, 6 and 7
abbrev pub digit_new : ℕ
digit_new = 48

abbrev pub digit_canceled : ℕ
digit_canceled = 54

abbrev pub digit_replacement : ℕ
digit_replacement = 55

-- the most millions of a good lot
abbrev pub millions_most : ℕ
millions_most = 99

-- positions two to four: 000 middle of a good or odd lot, 001 to 099 end of a good lot, 999 of an odd one,
-- 888 middle and 889 end of a bad-delivery lot; all else is wrong
unfoldable pub positions : ℕ → Terminator
positions n =
    cond (eqb n 0) Middle
    (cond (leb n millions_most) (GoodEnd n)
    (cond (eqb n 888) BadMiddle
    (cond (eqb n 889) BadEnd
    (cond (eqb n 999) OddEnd Wrong))))

-- what is not digits is wrong too
abbrev pub positions_of : Option ℕ → Terminator
positions_of (Some n) = positions n
positions_of None = Wrong

-- the four bytes of a terminator: position one, and what the others say
abbrev pub position_one : List ℕ → ℕ
position_one t = get_or t 0 0

unfoldable pub terminator_of : List ℕ → Terminator
terminator_of t = positions_of (read_number t 1 3)

-- ---- what a terminator says of its pool's lot
abbrev pub is_end : Terminator → Bool
is_end Middle = false
is_end BadMiddle = false
is_end (GoodEnd n) = true
is_end OddEnd = true
is_end BadEnd = true
is_end Wrong = false

abbrev pub is_wrong : Terminator → Bool
is_wrong Middle = false
is_wrong BadMiddle = false
is_wrong (GoodEnd n) = false
is_wrong OddEnd = false
is_wrong BadEnd = false
is_wrong Wrong = true

-- whether it stands in a bad-delivery lot
abbrev pub is_bad : Terminator → Bool
is_bad Middle = false
is_bad BadMiddle = true
is_bad (GoodEnd n) = false
is_bad OddEnd = false
is_bad BadEnd = true
is_bad Wrong = false

-- the kind of the lot that it ends (a lot has no other end)
abbrev pub kind_of : Terminator → Kind
kind_of Middle = Odd
kind_of BadMiddle = Odd
kind_of (GoodEnd n) = Good
kind_of OddEnd = Odd
kind_of BadEnd = Bad
kind_of Wrong = Odd

-- the number of a kind, as a record has it
abbrev pub kind_number : Kind → ℕ
kind_number Good = 1
kind_number Odd = 2
kind_number Bad = 3

-- the millions of the lot that it ends: 0 unless good
abbrev pub millions_of : Terminator → ℕ
millions_of Middle = 0
millions_of BadMiddle = 0
millions_of (GoodEnd n) = n
millions_of OddEnd = 0
millions_of BadEnd = 0
millions_of Wrong = 0

-- ---- the same of a detail
abbrev pub one : Detail → ℕ
one d = position_one d.terminator

abbrev pub term : Detail → Terminator
term d = terminator_of d.terminator

-- a pool that a CC cancels, and one that replaces
abbrev pub is_canceled : Detail → Bool
is_canceled d = eqb (one d) digit_canceled

abbrev pub is_replacement : Detail → Bool
is_replacement d = eqb (one d) digit_replacement

-- a new pool: one of an ON, or of a CC and not canceled
abbrev pub is_new : Detail → Bool
is_new d = not (is_canceled d)

abbrev pub is_good : Kind → Bool
is_good Good = true
is_good Odd = false
is_good Bad = false

abbrev pub is_odd : Kind → Bool
is_odd Good = false
is_odd Odd = true
is_odd Bad = false
