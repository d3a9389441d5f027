-- A frame call is made where it can be, and refused where it cannot: with 90 where the time bytes are not six, else with 42.
use Prim.Native.Nat.{ℕ}
use mathlib.Core.Path.{◌≡◌, refl, sym, ap, ◌∙◌}
use mathlib.Core.List.{List}
use mathlib.Core.Bool.{Bool, true, false, ◌&&◌}
use lib.ListN.{length}
use borrow.Author.Tests.{eqb-true, eq-eqb}
use Rattle.lists.specs.Lists.{pasted}
use Rattle.lists.proofs.Tests.{and_left, clash}
use Rattle.book.specs.declared.Caller.{Caller}
use Rattle.book.specs.declared.Book.{Book}
use Rattle.book.specs.declared.Pool.{Pool}
use Rattle.book.specs.declared.Answer.{Answer}
use Rattle.book.specs.declared.Answer.TheVariants.{Rejected}
use Rattle.book.specs.Reasons.{is_silent, book_unsound}
use Rattle.book.specs.Soundness.{is_sound}
use Rattle.book.specs.Checks.{Call, answer_of}
use Rattle.book.specs.Step.{book_after, call_with}
use Rattle.book.proofs.Unsound.{unsound_answer, unsound_table, unsound_output}
use Rattle.image.specs.Images.{is_image, book_in}
use Rattle.calls.specs.declared.Stepped.{Stepped}
use Rattle.calls.specs.Calls.{Framed}
use Rattle.calls_words.specs.Calls.{time_width, is_time, caller_of, callable, time_refused, said_with, words_after, StepsTo, Refuses, Calls}
use Rattle.exports_book.specs.Reading.{Reads}
use Rattle.exports_book.specs.Writing.{told_as, outbound_in, bytes_out, Finishes}
use Rattle.exports_book.proofs.Reading.{values_unsound, callable_six}
use Rattle.exports_book.proofs.Writing.{told_own, told_other}
use Rattle.rhoikandra.proofs.Written.{bytes_written, outbound_said}

image_known : (ws time : List ℕ) → callable ws time ≡ true → is_image ws ≡ true
unfolding callable
image_known ws time e = and_left (is_image ws) _ e

-- a call is not made without six time bytes, nor on words that are no book's
untimed_out : (ws time : List ℕ) → is_time time ≡ false → callable ws time ≡ false
unfolding callable
untimed_out ws time e = go (is_image ws)
  where
    go : (k : Bool) → (k && is_time time) ≡ false
    go true = e
    go false = refl

damaged_out : (ws time : List ℕ) → is_image ws ≡ false → callable ws time ≡ false
unfolding callable
damaged_out ws time e = rw e

module _ (ws : List ℕ) (pools : List Pool) (body time out said : List ℕ) (b : Book) (caller : Caller) (r : Stepped) (ws' : List ℕ) (pools' : List Pool) (out' said' : List ℕ) (framed : Framed b pools body caller out r pools' out') (ended : Finishes ws said time r ws' said') where
  abbrev c : Call
  c = call_with b pools body caller out

  -- the words and what is said, for the answer that is told
  module _ (a : Answer) (told : told_as time r.answer ≡ a) where
    words_are : ws' ≡ words_after ws a (book_after c)
    words_are = ended.image ∙ (λ i. words_after ws (told i) (framed.book i))

    said_is : said' ≡ pasted said 0 (said_with a (bytes_out (is_silent a) (outbound_in ws) (book_after c).values.connection.outbound.0))
    said_is = ended.answer ∙ (λ i. pasted said 0 (said_with (told i) (bytes_out (is_silent (told i)) (outbound_in ws) (framed.book i).values.connection.outbound.0)))

  steps_to : length time ≡ time_width → outbound_in ws ≡ b.values.connection.outbound.0 → StepsTo b ws pools body caller out said ws' pools' out' said'
  steps_to six last =
      let told : told_as time r.answer ≡ answer_of c = sym (told_own time r.answer six) ∙ framed.answer in
      record {
        image = words_are (answer_of c) told;
        table = framed.table;
        output = framed.output;
        answer =
            said_is (answer_of c) told ∙ ap (λ (n : ℕ). pasted said 0 (said_with (answer_of c) (bytes_out (is_silent (answer_of c)) n (book_after c).values.connection.outbound.0))) last
            ∙ ap (λ (n : ℕ). pasted said 0 (said_with (answer_of c) n)) (bytes_written c);
      }

  module _ (none : is_sound b pools ≡ false) where
    untimed : (length time ≡ time_width → ⊥) → Refuses time_refused ws pools out said ws' pools' out' said'
    unfolding words_after bytes_out
    untimed n =
        let told : told_as time r.answer ≡ Rejected time_refused = sym (told_other time r.answer n) in
        record {
          image = words_are (Rejected time_refused) told;
          table = framed.table ∙ unsound_table c none;
          output = framed.output ∙ unsound_output c none out;
          answer = said_is (Rejected time_refused) told;
        }

    damaged : length time ≡ time_width → Refuses book_unsound ws pools out said ws' pools' out' said'
    unfolding words_after bytes_out
    damaged six =
        let told : told_as time r.answer ≡ Rejected book_unsound = sym (told_own time r.answer six) ∙ framed.answer ∙ unsound_answer c none in
        record {
          image = words_are (Rejected book_unsound) told;
          table = framed.table ∙ unsound_table c none;
          output = framed.output ∙ unsound_output c none out;
          answer = said_is (Rejected book_unsound) told;
        }

pub called : (ws : List ℕ) (pools : List Pool) (body time : List ℕ) (seed : ℕ) (out said : List ℕ) (b : Book) (caller : Caller) (r : Stepped) (ws' : List ℕ) (pools' : List Pool) (out' said' : List ℕ)
    → Reads (callable ws time) ws b → (length time ≡ time_width → caller ≡ caller_of time seed) → Framed b pools body caller out r pools' out' → Finishes ws said time r ws' said'
    → Calls ws pools body time seed out said ws' pools' out' said'
called ws pools body time seed out said b caller r ws' pools' out' said' reads sixes framed ended =
    let none : callable ws time ≡ false → is_sound b pools ≡ false = λ n. values_unsound b pools (reads.none n) in
    record {
      steps = λ t.
          let six = callable_six ws time t in
          let eb : b ≡ book_in ws = reads.book t in
          let et : caller ≡ caller_of time seed = sixes six in
          let last : outbound_in ws ≡ b.values.connection.outbound.0 = outbound_said ws (image_known ws time t) ∙ ap (λ (k : Book). k.values.connection.outbound.0) (sym eb) in
          rw (eb, et) at (steps_to ws pools body time out said b caller r ws' pools' out' said' framed ended six last);
      untimed = λ n. untimed ws pools body time out said b caller r ws' pools' out' said' framed ended (none (untimed_out ws time n)) (λ six. clash (eq-eqb (length time) time_width six) n);
      damaged = λ t n. damaged ws pools body time out said b caller r ws' pools' out' said' framed ended (none (damaged_out ws time n)) (eqb-true (length time) time_width t);
    }
