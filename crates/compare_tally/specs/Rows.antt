-- The tally by four rows (01, "What goes out"): types in the order ON, CC, DK, CX, each with accepted, rejected and DKed.
use Rattle.std.specs.Prelude.{ℕ, List, cond, length, eqb}
use Rattle.message_type.specs.declared.MessageType.{MessageType}
use Rattle.message_type.specs.declared.MessageType.TheVariants.{On, Cc, Dk, Cx, Other}
use Rattle.tally.specs.declared.Outcome.{Outcome}
use Rattle.tally.specs.declared.Outcome.TheVariants.{Accepted, Rejected, Dked}
use Rattle.tally.specs.Tally.{raised}

-- a type by its number; what is not one of the four is another
unfoldable pub type_of : ℕ → MessageType
type_of n = cond (eqb n 0) On (cond (eqb n 1) Cc (cond (eqb n 2) Dk (cond (eqb n 3) Cx Other)))

-- an answer by its number; what is neither accepted nor rejected is DKed
unfoldable pub outcome_of : ℕ → Outcome
outcome_of n = cond (eqb n 0) Accepted (cond (eqb n 1) Rejected Dked)

-- four rows after an answer; rows of another number stay
unfoldable pub rows_raised : List (List ℕ) → ℕ → ℕ → List (List ℕ)
rows_raised rows type outcome = cond (eqb (length rows) 4) (raised rows (type_of type) (outcome_of outcome)) rows
