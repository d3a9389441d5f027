-- An answer in two numbers (01, "Who causes which number"): accepted and the message ID, or rejected or DKed and the number of the reason; and what two numbers tell the tally.
use Rattle.std.specs.Prelude.{ℕ, List, [], ◌∷◌, map, Option, Some, None, Bool, true, cond, not, length, get_or, eqb, ltb}
use Rattle.lists.specs.Lists.{any, keep}
use Rattle.tally.specs.declared.Outcome.{Outcome}
use Rattle.tally.specs.declared.Outcome.TheVariants as outcome
use Rattle.book.specs.declared.Answer.{Answer}
use Rattle.book.specs.declared.Answer.TheVariants.{Accepted, Rejected, Dked}
use Rattle.book.specs.Reasons.{number_of, is_silent_for}
use Rattle.book.specs.Checks.{Check, checks}

-- the two numbers of an answer
abbrev pub said_of : Answer → List ℕ
said_of (Accepted id) = 0 ∷ id ∷ []
said_of (Rejected r) = 1 ∷ number_of r ∷ []
said_of (Dked r) = 2 ∷ number_of r ∷ []

-- the numbers that the checks give and an AA tells
abbrev pub told_by : List Check → List ℕ
told_by ks = map (λ (k : Check). number_of k.reason) (keep (λ (k : Check). not (is_silent_for k.reason)) ks)

unfoldable pub is_told : ℕ → Bool
is_told n = any (eqb n) (told_by checks)

-- the column of an answer that an AA tells
abbrev pub heard : Bool → Outcome → Option Outcome
heard told column = cond told (Some column) None

-- what two numbers tell
unfoldable pub heard_as : ℕ → ℕ → Option Outcome
heard_as first second =
    cond (eqb first 0) (heard true outcome.Accepted)
    (cond (eqb first 1) (heard (is_told second) outcome.Rejected)
    (cond (eqb first 2) (heard (is_told second) outcome.Dked) None))

-- the same of the first two numbers of a list; fewer tell nothing
unfoldable pub heard_in : List ℕ → Option Outcome
heard_in said = cond (ltb (length said) 2) None (heard_as (get_or said 0 0) (get_or said 1 0))
