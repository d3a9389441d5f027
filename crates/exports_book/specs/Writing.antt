-- What the calls on words write (01, "The book", "What goes out"): after a frame call and an opening, of a trade, and of a frame.
use Rattle.std.specs.Prelude.{ℕ, ◌+◌, ◌≡◌, List, [], ◌∷◌, Bool, cond, length, get_or, eqb}
use Rattle.lists.specs.Lists.{pasted}
use Rattle.framing.specs.declared.Frame.{Frame}
use Rattle.std.specs.Prelude.{Option, Some, None, Result, Ok, Err}
use Rattle.acknowledgment.specs.Frames.{aa_length}
use Rattle.book.specs.declared.Answer.{Answer}
use Rattle.book.specs.declared.Answer.TheVariants.{Rejected}
use Rattle.book.specs.Reasons.{number_of, opening_refused, is_silent}
use Rattle.book.specs.Checks.{room_least}
use Rattle.image.specs.Words as words
use Rattle.image.specs.Images.{trades_words, book_words, image_of}
use Rattle.calls_words.specs.Calls.{is_time, time_refused, said_with, words_after}
use Rattle.calls.specs.declared.Stepped.{Stepped}
use Rattle.book.specs.declared.Book.{Book}

-- the answer that is told: the call's own where the time bytes are six
unfoldable pub told_as : List ℕ → Answer → Answer
told_as time a = cond (is_time time) a (Rejected time_refused)

-- the last outbound number that words say
unfoldable pub outbound_in : List ℕ → ℕ
outbound_in ws = cond (eqb (length ws) book_words) (get_or ws (trades_words + words.outbound) 0) 0

-- the bytes that went out between two outbound numbers
unfoldable pub bytes_out : Bool → ℕ → ℕ → ℕ
bytes_out quiet before after = cond quiet 0 (cond (eqb (before + 1) after) aa_length room_least)

-- the end of a call
pub record Finishes (ws said time : List ℕ) (r : Stepped) (ws' said' : List ℕ) : Type 0 where
  pub image : ws' ≡ words_after ws (told_as time r.answer) r.book
  pub answer : said' ≡ pasted said 0 (said_with (told_as time r.answer) (bytes_out (is_silent (told_as time r.answer)) (outbound_in ws) r.book.values.connection.outbound.0))

-- the end of an opening: 0 and the words of the opened book, or the number of its refusal, and the words as they were
abbrev pub OpensTo : List ℕ → Result Book Book → List ℕ → ℕ → Type 0
OpensTo ws (Ok b) ws' r = (r ≡ 0) × (ws' ≡ pasted ws 0 (image_of b))
OpensTo ws (Err b) ws' r = (r ≡ number_of opening_refused) × (ws' ≡ ws)

-- of a frame: whether there is one, where its body starts and ends, and the place after it
abbrev pub frame_numbers : Option Frame → List ℕ
frame_numbers (Some f) = 1 ∷ f.start ∷ f.end ∷ f.next ∷ []
frame_numbers None = 0 ∷ 0 ∷ 0 ∷ 0 ∷ []
