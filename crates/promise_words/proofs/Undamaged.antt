-- 42 never meets a client that opened on words without refusal and hands words and table on as the calls leave them: no call of such a run is answered with
-- the number 42, whatever body, time bytes, seed and output it is given.
use Rattle.std.specs.Prelude.{Err, Ok}
use Prim.Native.Nat.{ℕ}
use mathlib.Core.Path.{◌≡◌, refl, sym, ap, ◌∙◌}
use mathlib.Core.List.{List, ◌++◌}
use mathlib.Core.Bool.{Bool, true, false, cond, not, ◌&&◌}
use native.Mathlib.Omega.{arith}
use lib.Dec.{eqb}
use borrow.Author.Tests.{eq-eqb}
use Rattle.lists.proofs.Tests.{clash}
use Rattle.message_type.specs.Questions.{answers_as_dk}
use Rattle.book.specs.declared.Pool.{Pool}
use Rattle.book.specs.declared.Reason.{Reason}
use Rattle.book.specs.Reasons.{Verdict}
use Rattle.book.specs.declared.Answer.TheVariants.{Rejected, Dked}
use Rattle.book.specs.Reasons.{number_of, is_traders, code_of, book_unsound}
use Rattle.book.specs.Messages.{type_of}
use Rattle.book.specs.Soundness.{is_sound}
use Rattle.book.specs.Checks.{Call, soundness_checks, sender_checks, terms_checks, moves_checks, trader_checks, first_failing, answer_to, answer_of}
use Rattle.book.specs.Step.{call_with}
use Rattle.book.specs.History.{Fed}
use Rattle.book.proofs.Firsts.{first_among}
use Rattle.book.proofs.Reached.{sound_is}
use Rattle.image.specs.Images.{book_in}
use Rattle.calls_words.specs.Calls.{is_time, caller_of, time_refused}
use Rattle.calls_words.specs.Opening.{Opening}
use Rattle.promise_words.specs.Runs.{Stored, answer_at, WordsRun}
use Rattle.promise_words.proofs.Promised.{words_image, words_sound}

-- another number than 42
abbrev other : Reason → Bool
other r = not (eqb (number_of r) (number_of book_unsound))

not_42 : (r : Reason) → other r ≡ true → (b : Bool) → code_of (cond b (Dked r) (Rejected r)) ≡ number_of book_unsound → ⊥
not_42 r h true e = clash h (rw (eq-eqb (number_of r) (number_of book_unsound) e))
not_42 r h false e = clash h (rw (eq-eqb (number_of r) (number_of book_unsound) e))

-- where the book is sound, the checks after 42 decide, and none of them has its number
sound_answer : (c : Call) → is_sound c.book c.table ≡ true → answer_of c ≡ answer_to c (first_failing (sender_checks ++ trader_checks) c)
unfolding answer_of soundness_checks is_sound
sound_answer c s = rw s

later : (c : Call) (v : Verdict) → first_failing (sender_checks ++ trader_checks) c ≡ v → code_of (answer_to c v) ≡ number_of book_unsound → ⊥
unfolding sender_checks terms_checks moves_checks
later c (Ok u) f e = absurd (omega (arith, e))
later c (Err r) f e = not_42 r (first_among other c (sender_checks ++ trader_checks) r refl f) (is_traders r && not (answers_as_dk (type_of c.body))) e

pub sound_undamaged : (c : Call) → is_sound c.book c.table ≡ true → code_of (answer_of c) ≡ number_of book_unsound → ⊥
sound_undamaged c s e = later c (first_failing (sender_checks ++ trader_checks) c) refl (ap code_of (sym (sound_answer c s)) ∙ e)

module _ (ws : List ℕ) (pools : List Pool) (ws' : List ℕ) (pools' : List Pool) (r : ℕ) (o : Opening ws pools ws' pools' r) (zero : r ≡ 0)
    (s : Stored) (fs : List Fed) (run : WordsRun (record { words = ws'; pools = pools' }) fs s) where
  -- with six time bytes, the checks on the book that the words say give the answer
  pub words_answer : (body time : List ℕ) (seed : ℕ) (out : List ℕ) → is_time time ≡ true
      → answer_at s body time seed out ≡ answer_of (call_with (book_in s.words) s.pools body (caller_of time seed) out)
  unfolding answer_at
  words_answer body time seed out timed = rw (timed, words_image ws pools ws' pools' r o zero s fs run)

  -- and whatever the time bytes are, it is not 42
  pub words_undamaged : (body time : List ℕ) (seed : ℕ) (out : List ℕ) → code_of (answer_at s body time seed out) ≡ number_of book_unsound → ⊥
  unfolding answer_at
  words_undamaged body time seed out e = go (is_time time) refl
    where
      go : (b : Bool) → is_time time ≡ b → ⊥
      go true timed =
          let c : Call = call_with (book_in s.words) s.pools body (caller_of time seed) out in
          let sound = sound_is (book_in s.words) s.pools (words_sound ws pools ws' pools' r o zero s fs run) in
          sound_undamaged c sound (ap code_of (sym (words_answer body time seed out timed)) ∙ e)
      go false untimed =
          let a : answer_at s body time seed out ≡ Rejected time_refused = rw untimed in
          let q : ◌≡◌ {A = ℕ} 90 42 = sym (ap code_of a) ∙ e in
          omega arith
