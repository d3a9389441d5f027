-- What a refusal's reason says (01, "Who causes which number"): its number, whether it is silent, and whose it is; and what an answer says by it.
use Rattle.std.specs.Prelude.{Result, ⊤, ℕ, Bool, true, false, cond, not, ◌&&◌}
use Rattle.message_type.specs.declared.MessageType.{MessageType}
use Rattle.message_type.specs.Questions.{answers_as_dk}
use Rattle.book.specs.declared.Reason.{Reason}
use Rattle.book.specs.declared.Reason.TheVariants.{Operator, Line, Sender, Trader}
use Rattle.book.specs.declared.Answer.{Answer}
use Rattle.book.specs.declared.Answer.TheVariants.{Accepted, Rejected, Dked}

-- what a list of checks says: all pass, or the first that fails, by its reason
abbrev pub Verdict : Type 0
Verdict = Result ⊤ Reason

-- a refusal that moves nothing and writes nothing, and one that an AA tells
abbrev pub silent : Bool
silent = true

abbrev pub told : Bool
told = false

abbrev pub number_of : Reason → ℕ
number_of (Operator n s) = n
number_of (Line n s) = n
number_of (Sender n s) = n
number_of (Trader n s) = n

abbrev pub is_silent_for : Reason → Bool
is_silent_for (Operator n s) = s
is_silent_for (Line n s) = s
is_silent_for (Sender n s) = s
is_silent_for (Trader n s) = s

abbrev pub is_traders : Reason → Bool
is_traders (Operator n s) = false
is_traders (Line n s) = false
is_traders (Sender n s) = false
is_traders (Trader n s) = true

-- 41, which refuses an opening and no frame
abbrev pub opening_refused : Reason
opening_refused = Operator 41 silent

-- 42, which refuses every call on a book that is not sound
abbrev pub book_unsound : Reason
book_unsound = Operator 42 silent

-- a trader's number is DKed, but on a DK rejected; every other is rejected
abbrev pub refusal : MessageType → Reason → Answer
refusal t r = cond (is_traders r && not (answers_as_dk t)) (Dked r) (Rejected r)

-- the code of an AA: 0 where the message is accepted
abbrev pub code_of : Answer → ℕ
code_of (Accepted id) = 0
code_of (Rejected r) = number_of r
code_of (Dked r) = number_of r

-- the message ID of an AA, which is written only where the message is accepted
abbrev pub id_of : Answer → ℕ
id_of (Accepted id) = id
id_of (Rejected r) = 0
id_of (Dked r) = 0

abbrev pub is_accepted : Answer → Bool
is_accepted (Accepted id) = true
is_accepted (Rejected r) = false
is_accepted (Dked r) = false

-- whether an answer moves nothing and writes nothing
abbrev pub is_silent : Answer → Bool
is_silent (Accepted id) = false
is_silent (Rejected r) = is_silent_for r
is_silent (Dked r) = is_silent_for r
