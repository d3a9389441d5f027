-- What a frame call writes: into the output its frames, at the front, and not a byte after them; into what is said the two numbers of its answer, and then how
-- many bytes the frames have. That holds of every call on any words, table, body, time bytes, seed and output; where the call is silent or cannot be made
-- there are no frames, and the whole output stays.
use Rattle.std.specs.Prelude.{Err}
use Prim.Native.Nat.{ℕ, ◌+◌, ◌≤◌}
use mathlib.Core.Path.{◌≡◌, refl, ◌∙◌}
use mathlib.Core.List.{List, [], ◌++◌}
use mathlib.Core.Bool.{Bool, true, false, cond, not, true≢false, ◌&&◌}
use native.Mathlib.Omega.{arith}
use lib.ListN.{length, drop, length-append}
use borrow.Author.Tests.{ltb-false, eqb-true}
use Rattle.lists.specs.Lists.{within, pasted}
use Rattle.lists.proofs.Parts.{length_part, in_within}
use Rattle.lists.proofs.Pasting.{paste_in, paste_more}
use Rattle.lists.proofs.Tests.{both}
use Rattle.layout.specs.Details.{length_fits}
use Rattle.layout.proofs.Lengths.{fit_length}
use Rattle.acknowledgment.specs.Frames.{aa_length, tx_length}
use Rattle.acknowledgment.proofs.Lengths.{length_aa, length_tx}
use Rattle.book.specs.declared.Pool.{Pool}
use Rattle.book.specs.declared.Reason.TheVariants.{Operator, Line}
use Rattle.book.specs.Reasons.{Verdict}
use Rattle.book.specs.declared.Answer.{Answer}
use Rattle.book.specs.declared.Answer.TheVariants.{Rejected}
use Rattle.book.specs.Reasons.{silent, is_silent, book_unsound}
use Rattle.book.specs.Soundness.{held_in}
use Rattle.book.specs.Checks.{Call, unsound, numbers_spent, room_least, output_short, soundness_checks, sender_checks, trader_checks, first_failing, answer_to, answer_of}
use Rattle.book.specs.Step.{gap_at, output_for, output_after, call_with}
use Rattle.image.specs.Images.{rest_of, is_image, values_from, book_in}
use Rattle.image.proofs.Told.{image_lent}
use Rattle.calls_words.specs.Calls.{is_time, caller_of, callable, time_refused, written, said_with, Calls}
use Rattle.promise_words.specs.Runs.{Stored, answer_at}
use Rattle.promise_words.specs.Sent.{tx_sent, aa_sent, frames_on, sent, sent_at}
use Rattle.promise_words.proofs.Forming.{rest_long}

-- an answer that goes out comes after 44 and 10
module _ (c : Call) (loud : is_silent (answer_of c) ≡ false) where
  loud_passed : (output_short c.asked ≡ false) × (length_fits c.body ≡ true)
  unfolding answer_of soundness_checks sender_checks
  loud_passed = go (unsound c.book (held_in c.book c.table) c.body) (numbers_spent c.book.values c.body) (output_short c.asked) (length_fits c.body) (first_failing (drop 3 sender_checks ++ trader_checks) c) loud
    where
      go : (x y z l : Bool) (v : Verdict)
          → is_silent (answer_to c (cond x (Err (Operator 42 silent)) (cond y (Err (Operator 43 silent)) (cond z (Err (Operator 44 silent)) (cond (not l) (Err (Line 10 silent)) v))))) ≡ false
          → (z ≡ false) × (l ≡ true)
      go true y z l v h = absurd (true≢false h)
      go false true z l v h = absurd (true≢false h)
      go false false true l v h = absurd (true≢false h)
      go false false false false v h = absurd (true≢false h)
      go false false false true v h = (refl, refl)

-- a paste at the front
pub front : (out xs : List ℕ) (n : ℕ) → length xs ≡ n → n ≤ length out → pasted out 0 xs ≡ xs ++ drop n out
front out xs n e h =
    let w : within out 0 (length xs) ≡ true = in_within out 0 (length xs) (omega arith) (omega arith) in
    let z : 0 + length xs ≡ n = omega arith in
    paste_in out 0 xs w ∙ rw z

module _ (s : Stored) (body time : List ℕ) (seed : ℕ) (out : List ℕ) (image : is_image s.words ≡ true) (timed : is_time time ≡ true) where
  abbrev c : Call
  c = call_with (book_in s.words) s.pools body (caller_of time seed) out

  subscriber_long : length c.book.values.lent.subscriber ≡ 4
  unfolding book_in values_from
  subscriber_long = length_part (rest_of s.words) 34 4 (omega (arith, rest_long s.words (image_lent s.words image)))

  connection_long : length c.book.values.connection.id ≡ 4
  unfolding book_in values_from
  connection_long = length_part (rest_of s.words) 38 4 (omega (arith, rest_long s.words (image_lent s.words image)))

  tx_long : length (tx_sent c) ≡ tx_length
  tx_long = length_tx _ subscriber_long connection_long _ _

  module _ (loud : is_silent (answer_of c) ≡ false) where
    room : room_least ≤ length out
    room = ltb-false (length out) room_least (loud_passed c loud).0

    aa_long : length (aa_sent c) ≡ aa_length
    aa_long =
        let l = fit_length body (loud_passed c loud).1 in
        length_aa _ subscriber_long connection_long _
        (length_part body 98 16 (omega (arith, l))) (eqb-true (length time) 6 timed) (length_part body 2 6 (omega (arith, l)))

  -- on a gap or without one
  abbrev bytes : Bool → ℕ
  bytes gap = cond gap room_least aa_length

  loud_made : is_silent (answer_of c) ≡ false → (gap : Bool)
      → (pasted (cond gap (pasted out 0 (tx_sent c)) out) (cond gap tx_length 0) (aa_sent c) ≡ frames_on c gap ++ drop (bytes gap) out) × (length (frames_on c gap) ≡ bytes gap)
  loud_made e true =
      let both : length (tx_sent c ++ aa_sent c) ≡ room_least = length-append (tx_sent c) (aa_sent c) ∙ omega (arith, tx_long, aa_long e) in (
        paste_more out 0 (tx_sent c) (aa_sent c) tx_length (omega (arith, tx_long)) (omega (arith, aa_long e, room e)) ∙ front out (tx_sent c ++ aa_sent c) room_least both (room e),
        both,
      )
  loud_made e false = (front out (aa_sent c) aa_length (aa_long e) (omega (arith, room e)), aa_long e)

  -- a call that can be made
  made : (output_after c out ≡ sent c ++ drop (written c) out) × (length (sent c) ≡ written c)
  unfolding output_after output_for sent written
  made = go (is_silent (answer_of c)) refl
    where
      gap : Bool
      gap = gap_at c.book body

      go : (quiet : Bool) → is_silent (answer_of c) ≡ quiet
          → (cond quiet out (pasted (cond gap (pasted out 0 (tx_sent c)) out) (cond gap tx_length 0) (aa_sent c)) ≡ cond quiet [] (frames_on c gap) ++ drop (cond quiet 0 (bytes gap)) out)
          × (length (cond quiet [] (frames_on c gap)) ≡ cond quiet 0 (bytes gap))
      go true e = (refl, refl)
      go false e = loud_made e gap

-- ---- any call
module _ (s : Stored) (body time : List ℕ) (seed : ℕ) (out said ws : List ℕ) (pools : List Pool) (out' said' : List ℕ) (k : Calls s.words s.pools body time seed out said ws pools out' said') where
  -- its frames and then the rest of the output; what is said is its answer, and how many bytes the frames have
  abbrev Writes : Answer → List ℕ → Type 0
  Writes a own = (out' ≡ own ++ drop (length own) out) × (said' ≡ pasted said 0 (said_with a (length own)))

  call_writes : Writes (answer_at s body time seed out) (sent_at s body time seed out)
  unfolding answer_at sent_at callable
  call_writes = go (is_time time) (is_image s.words) refl refl
    where
      calls : Call
      calls = call_with (book_in s.words) s.pools body (caller_of time seed) out

      go : (t i : Bool) → is_time time ≡ t → is_image s.words ≡ i
          → Writes (cond t (cond i (answer_of calls) (Rejected book_unsound)) (Rejected time_refused)) (cond (i && t) (sent calls) [])
      go true true et ei =
          let st = k.steps (both (is_image s.words) (is_time time) ei et) in
          let m = made s body time seed out ei et in
          (rw m.1 (st.output ∙ m.0), rw m.1 st.answer)
      go true false et ei = let r = k.damaged et ei in (r.output, r.answer)
      go false true et ei = let r = k.untimed et in (r.output, r.answer)
      go false false et ei = let r = k.untimed et in (r.output, r.answer)

  pub written_only : out' ≡ sent_at s body time seed out ++ drop (length (sent_at s body time seed out)) out
  written_only = call_writes.0

  pub words_said : said' ≡ pasted said 0 (said_with (answer_at s body time seed out) (length (sent_at s body time seed out)))
  words_said = call_writes.1
