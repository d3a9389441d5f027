-- The frame call on words (01, "The book", "What goes out"): the words, the table, the output and what is said after it.
use Rattle.std.specs.Prelude.{ℕ, ◌≡◌, List, [], ◌∷◌, ◌++◌, Bool, true, false, cond, ◌&&◌, length, eqb}
use Rattle.lists.specs.Lists.{pasted}
use Rattle.acknowledgment.specs.Frames.{aa_length}
use Rattle.book.specs.declared.Caller.{Caller}
use Rattle.book.specs.declared.Book.{Book}
use Rattle.book.specs.declared.Pool.{Pool}
use Rattle.book.specs.declared.Answer.{Answer}
use Rattle.book.specs.declared.Answer.TheVariants.{Rejected}
use Rattle.book.specs.declared.Reason.{Reason}
use Rattle.book.specs.declared.Reason.TheVariants.{Operator}
use Rattle.book.specs.Reasons.{silent, is_accepted, is_silent, book_unsound}
use Rattle.book.specs.Checks.{Call, room_least, answer_of}
use Rattle.book.specs.Step.{gap_at, book_after, table_after, output_after, call_with}
use Rattle.exports_numbers.specs.Said.{said_of}
use Rattle.image.specs.Images.{trades_words, is_image, book_in, rest_image, image_of}

abbrev pub time_width : ℕ
time_width = 6

abbrev pub is_time : List ℕ → Bool
is_time time = eqb (length time) time_width

-- what lent time bytes and a seed give a call
abbrev pub caller_of : List ℕ → ℕ → Caller
caller_of time seed = record { time = time; seed = seed }

-- words that are a book's, and six time bytes
unfoldable pub callable : List ℕ → List ℕ → Bool
callable ws time = is_image ws && is_time time

-- 90, which refuses a frame call whose time bytes are not six: the papers have no number for it
abbrev pub time_refused : Reason
time_refused = Operator 90 silent

-- how many bytes of the output are the call's own: none after a silent refusal, a TX and an AA on a gap, else an AA
unfoldable pub written : Call → ℕ
written c = cond (is_silent (answer_of c)) 0 (cond (gap_at c.book c.body) room_least aa_length)

-- what is said: the answer in two numbers, then how many bytes of the output are the call's own
abbrev pub said_with : Answer → ℕ → List ℕ
said_with a bytes = said_of a ++ (bytes ∷ [])

-- the words after an answer: none move after a silent refusal, and all but the trades' after any other
unfoldable pub words_after : List ℕ → Answer → Book → List ℕ
words_after ws a b = cond (is_silent a) ws (cond (is_accepted a) (pasted ws 0 (image_of b)) (pasted ws trades_words (rest_image b)))

-- what a frame call on a book leaves of words, a table, an output and what is said
pub record StepsTo (b : Book) (ws : List ℕ) (pools : List Pool) (body : List ℕ) (caller : Caller) (out said : List ℕ) (ws' : List ℕ) (pools' : List Pool) (out' said' : List ℕ) : Type 0 where
  pub image : ws' ≡ words_after ws (answer_of (call_with b pools body caller out)) (book_after (call_with b pools body caller out))
  pub table : pools' ≡ table_after (call_with b pools body caller out)
  pub output : out' ≡ output_after (call_with b pools body caller out) out
  pub answer : said' ≡ pasted said 0 (said_with (answer_of (call_with b pools body caller out)) (written (call_with b pools body caller out)))

-- a call that cannot be made is refused for a reason, and nothing else moves
pub record Refuses (why : Reason) (ws : List ℕ) (pools : List Pool) (out said : List ℕ) (ws' : List ℕ) (pools' : List Pool) (out' said' : List ℕ) : Type 0 where
  pub image : ws' ≡ ws
  pub table : pools' ≡ pools
  pub output : out' ≡ out
  pub answer : said' ≡ pasted said 0 (said_with (Rejected why) 0)

-- the call is made where words and time bytes let it; other time bytes are refused first, then words that are no book's. The seed is handed on, and no definition reads it
pub record Calls (ws : List ℕ) (pools : List Pool) (body time : List ℕ) (seed : ℕ) (out said : List ℕ) (ws' : List ℕ) (pools' : List Pool) (out' said' : List ℕ) : Type 0 where
  pub steps : callable ws time ≡ true → StepsTo (book_in ws) ws pools body (caller_of time seed) out said ws' pools' out' said'
  pub untimed : is_time time ≡ false → Refuses time_refused ws pools out said ws' pools' out' said'
  pub damaged : is_time time ≡ true → is_image ws ≡ false → Refuses book_unsound ws pools out said ws' pools' out' said'
