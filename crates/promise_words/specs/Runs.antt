-- A client's run of frame calls on words: each gets the words and the table as the one before left them, and is known by its contract alone.
-- Words and table are all that a client has between two calls: those that are saved and loaded again go on as if nothing had been between.
use Rattle.std.specs.Prelude.{ℕ, List, [], ◌∷◌, cond}
use Rattle.book.specs.declared.Pool.{Pool}
use Rattle.book.specs.declared.Answer.{Answer}
use Rattle.book.specs.declared.Answer.TheVariants.{Rejected}
use Rattle.book.specs.Reasons.{is_accepted, book_unsound}
use Rattle.book.specs.Checks.{answer_of}
use Rattle.book.specs.Step.{call_with}
use Rattle.book.specs.History.{Fed}
use Rattle.book.specs.Promise.{State}
use Rattle.image.specs.Images.{is_image, book_in}
use Rattle.calls_words.specs.Calls.{is_time, caller_of, time_refused, Calls}

-- what a client has between two calls
pub record Stored : Type 0 where
  pub words : List ℕ
  pub pools : List Pool

-- the book that its words say, and its table
abbrev pub state_of : Stored → State
state_of s = record { book = book_in s.words; table = s.pools }

-- the answer of a frame call on words: the time bytes are looked at first, then whether the words are a book's
unfoldable pub answer_at : Stored → List ℕ → List ℕ → ℕ → List ℕ → Answer
answer_at s body time seed out =
    cond (is_time time)
    (cond (is_image s.words) (answer_of (call_with (book_in s.words) s.pools body (caller_of time seed) out)) (Rejected book_unsound))
    (Rejected time_refused)

-- calls one after another, and what a history is fed by them
pub data WordsRun : Stored → List Fed → Stored → Type 0 where
  done : {s : Stored} → WordsRun s [] s
  next : {s s'' : Stored} {fs : List Fed} (body time : List ℕ) (seed : ℕ) (out said ws : List ℕ) (pools : List Pool) (out' said' : List ℕ)
      → Calls s.words s.pools body time seed out said ws pools out' said'
      → WordsRun (record { words = ws; pools = pools }) fs s''
      → WordsRun s (record { body = body; is_accepted = is_accepted (answer_at s body time seed out) } ∷ fs) s''
