-- The tally counts the answers of any run of frame calls on words: where each call was lent room for its numbers, and four rows are raised after each by its
-- body and those numbers, a cell holds as many more as calls of its type got its answer, up to a full cell. Silent refusals are in no cell. It holds from any
-- words and table, opened or not.
use Prim.Native.Nat.{ℕ, ◌≤◌, ◌<◌}
use mathlib.Core.Path.{◌≡◌, refl, ap, ◌∙◌}
use mathlib.Core.List.{List, [], ◌∷◌, ◌++◌, map}
use mathlib.Core.Bool.{Bool, true, false, cond}
use lib.ListN.{length, get_or, drop}
use Rattle.lists.specs.Lists.{pasted}
use Rattle.tally.specs.Tally.{full_cell, cell}
use Rattle.book.specs.declared.Pool.{Pool}
use Rattle.book.specs.declared.Answer.{Answer}
use Rattle.book.specs.declared.Answer.TheVariants.{Accepted, Rejected, Dked}
use Rattle.book.specs.Reasons.{is_accepted, book_unsound}
use Rattle.book.specs.Checks.{Call, soundness_checks, sender_checks, terms_checks, moves_checks, answer_of}
use Rattle.book.specs.Step.{tally_after, call_with}
use Rattle.book.specs.History.{Fed}
use Rattle.promise.specs.Counted.{Answered, tallied, count_after}
use Rattle.promise.proofs.Counting.{tally_rows, tallied_counts}
use Rattle.exports_numbers.specs.Said.{said_of, is_told}
use Rattle.image.specs.Images.{is_image, book_in}
use Rattle.calls_words.specs.Calls.{is_time, caller_of, time_refused, said_with, Calls}
use Rattle.calls_words.specs.Tally.{rows_after}
use Rattle.calls_words.proofs.Counting.{tells, counted, counted_rejected}
use Rattle.promise_words.specs.Runs.{Stored, answer_at, WordsRun, done, next}
use Rattle.promise_words.specs.Sent.{sent_at}
use Rattle.promise_words.specs.Counted.{answered_in, Roomy, rows_along}
use Rattle.promise_words.proofs.Written.{front, words_said}

-- the two reasons of calls that cannot be made are silent, and their numbers are told by none
untimed_tells : tells time_refused ≡ true
unfolding is_told soundness_checks sender_checks terms_checks moves_checks
untimed_tells = refl

damaged_tells : tells book_unsound ≡ true
unfolding is_told soundness_checks sender_checks terms_checks moves_checks
damaged_tells = refl

-- what is said begins with the two numbers of the answer
said_first : (said : List ℕ) (a : Answer) (n : ℕ) → 3 ≤ length said → pasted said 0 (said_with a n) ≡ said_of a ++ ((n ∷ []) ++ drop 3 said)
said_first said (Accepted id) n h = front said (said_with (Accepted id) n) 3 refl h
said_first said (Rejected r) n h = front said (said_with (Rejected r) n) 3 refl h
said_first said (Dked r) n h = front said (said_with (Dked r) n) 3 refl h

-- one call
module _ (s : Stored) (body time : List ℕ) (seed : ℕ) (out said ws : List ℕ) (pools : List Pool) (out' said' : List ℕ) (k : Calls s.words s.pools body time seed out said ws pools out' said')
    (room : 3 ≤ length said) (rows : List (List ℕ)) (four : length rows ≡ 4) where
  answer_counted : (rest : List ℕ) → rows_after body (said_of (answer_at s body time seed out) ++ rest) rows ≡ tally_after body (answer_at s body time seed out) rows
  unfolding answer_at
  answer_counted rest = go (is_time time) (is_image s.words)
    where
      c : Call
      c = call_with (book_in s.words) s.pools body (caller_of time seed) out

      go : (t i : Bool)
          → rows_after body (said_of (cond t (cond i (answer_of c) (Rejected book_unsound)) (Rejected time_refused)) ++ rest) rows
          ≡ tally_after body (cond t (cond i (answer_of c) (Rejected book_unsound)) (Rejected time_refused)) rows
      go true true = counted body rows c rest four
      go true false = counted_rejected body rows book_unsound rest damaged_tells four
      go false i = counted_rejected body rows time_refused rest untimed_tells four

  call_counted : rows_after body said' rows ≡ tally_after body (answer_at s body time seed out) rows
  call_counted =
      let n : ℕ = length (sent_at s body time seed out) in
      ap (λ (l : List ℕ). rows_after body l rows)
      (words_said s body time seed out said ws pools out' said' k ∙ said_first said (answer_at s body time seed out) n room)
      ∙ answer_counted ((n ∷ []) ++ drop 3 said)

-- the rows along a run are the tally of its answers
pub words_tally : {s s'' : Stored} {fs : List Fed} (run : WordsRun s fs s'') → Roomy run → (rows : List (List ℕ)) → length rows ≡ 4 → rows_along run rows ≡ tallied (answered_in run) rows
unfolding answered_in Roomy rows_along tallied
words_tally done room rows four = refl
words_tally (next {s = s} body time seed out said ws pools out' said' k rest) room rows four =
    let a : Answer = answer_at s body time seed out in
    ap (rows_along rest) (call_counted s body time seed out said ws pools out' said' k room.0 rows four)
    ∙ words_tally rest room.1 (tally_after body a rows) (tally_rows body a rows ∙ four)

-- so each cell counts them
pub words_counts : {s s'' : Stored} {fs : List Fed} (run : WordsRun s fs s'') → Roomy run → (rows : List (List ℕ)) → length rows ≡ 4 → (row column : ℕ)
    → row < length rows → column < length (get_or rows row []) → cell rows row column ≤ full_cell
    → cell (rows_along run rows) row column ≡ count_after row column (answered_in run) (cell rows row column)
words_counts run room rows four row column l w h =
    ap (λ (x : List (List ℕ)). cell x row column) (words_tally run room rows four) ∙ tallied_counts row column (answered_in run) rows l w h

-- and these answers are those that feed the history
pub words_answered : {s s'' : Stored} {fs : List Fed} (run : WordsRun s fs s'') → map (λ (a : Answered). record { body = a.body; is_accepted = is_accepted a.answer }) (answered_in run) ≡ fs
unfolding answered_in
words_answered done = refl
words_answered (next {s = s} body time seed out said ws pools out' said' k rest) =
    ap (λ (fs : List Fed). record { body = body; is_accepted = is_accepted (answer_at s body time seed out) } ∷ fs) (words_answered rest)
