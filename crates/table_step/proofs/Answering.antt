-- The answer of a call, by the part of the checks that decides it, and what a refused call leaves.
use Prim.Native.Nat.{ℕ, ◌≤◌}
use native.Mathlib.Omega.{arith}
use mathlib.Core.Path.{◌≡◌, refl, sym, ap, ◌∙◌}
use mathlib.Core.List.{List, ◌++◌}
use mathlib.Core.Bool.{Bool, true, false, cond, not, true≢false}
use lib.ListN.{length}
use borrow.Author.Tests.{not-false}
use Rattle.std.specs.Prelude.{Result, Ok, Err}
use Rattle.layout.specs.Columns.{header_width}
use Rattle.layout.specs.Details.{length_fits, details}
use Rattle.layout.proofs.Lengths.{fit_length}
use Rattle.terminator.specs.Lots.{formed_for}
use Rattle.terminator.specs.Groups.{groups_formed}
use Rattle.book.specs.declared.Caller.{Caller}
use Rattle.book.specs.declared.Book.{Book}
use Rattle.book.specs.declared.Pool.{Pool}
use Rattle.book.specs.declared.Reason.{Reason}
use Rattle.book.specs.declared.Reason.TheVariants as by
use Rattle.book.specs.declared.Answer.{Answer}
use Rattle.book.specs.Reasons.{Verdict, silent, is_silent, is_silent_for, refusal, book_unsound}
use Rattle.book.specs.Messages.{type_of}
use Rattle.book.specs.Soundness.{held_in, holds_sound, is_sound}
use Rattle.book.specs.Checks.{Call, call, Asked, numbers_spent, output_short}
use Rattle.book.specs.Checks.{soundness_checks, sender_checks, trader_checks, checks, first_failing, answer_to, answer_of}
use Rattle.book.specs.Step.{output_for, call_with, book_after, table_after, output_after}
use Rattle.message_type.specs.Questions.{is_cc, brings_lots}
use Rattle.book.proofs.Pools.{brings_some}
use Rattle.book.proofs.Passed.{passes, for_type, refusal_refuses, refusal_silent}
use Rattle.book.proofs.Firsts.{first_late, first_early}
use Rattle.reply.specs.Counters.{with_counters}
use Rattle.check_trader.specs.declared.Decision.{Decision}
use Rattle.check_trader.specs.Decisions.{Ready, DecidedBy}
use Rattle.calls.specs.declared.Stepped.{Stepped}
use Rattle.calls.specs.Calls.{Framed}

-- a body of the right length has a header
pub header_there : (body : List ℕ) → length_fits body ≡ true → header_width ≤ length body
header_there body e = omega (arith, fit_length body e)

-- ---- the parts of the checks, one after another
module _ (b : Book) (ps : List Pool) (body : List ℕ) (asked : Asked) where
  abbrev c : Call
  c = call b ps body asked

  -- 42
  pub unsound_decides : is_sound b ps ≡ false → DecidedBy checks c (Err book_unsound)
  unfolding soundness_checks is_sound
  unsound_decides e = record { verdict = rw e; moves = tt }

  module _ (s : is_sound b ps ≡ true) (v : Verdict) (ev : v ≡ first_failing sender_checks c) where
    past_first : first_failing checks c ≡ first_failing (sender_checks ++ trader_checks) c
    unfolding soundness_checks is_sound
    past_first = rw s

    -- 43 to 25
    pub sender_decides : (q : Reason) → v ≡ Err q → (r : Result Decision Reason) → r ≡ Err q → DecidedBy checks c r
    sender_decides q e r er =
        rw er (record { verdict = sym (past_first ∙ first_early c sender_checks trader_checks q (sym ev ∙ e)); moves = tt })

    module _ (e : v ≡ Ok tt) where
      pass : first_failing sender_checks c ≡ Ok tt
      pass = sym ev ∙ e

      -- 10, 19 and 20 have passed: an ON and a CC bring some lot
      pub ready : Ready b ps body
      unfolding sender_checks
      ready =
          let formed = for_type (brings_lots (type_of body)) (formed_for (is_cc (type_of body)) (details body)) (passes 19 sender_checks c pass) in
          record {
            sound = s;
            formed = formed;
            some =
                brings_some body (not-false (length_fits body) (passes 10 sender_checks c pass)) formed
                (for_type (is_cc (type_of body)) (groups_formed (details body)) (passes 20 sender_checks c pass));
          }

      -- 30 to 40
      pub trader_decides : (r : Result Decision Reason) → DecidedBy trader_checks c r → DecidedBy checks c r
      trader_decides r d =
          record { verdict = d.verdict ∙ sym (past_first ∙ first_late c sender_checks trader_checks pass); moves = d.moves }

-- ---- a refused call
abbrev silent_in : Verdict → Bool
silent_in (Ok u) = true
silent_in (Err q) = is_silent_for q

-- a number that goes out comes after 10: one that fails before it is silent
loud_length : (c : Call) (q : Reason) → first_failing checks c ≡ Err q → is_silent_for q ≡ false → length_fits c.body ≡ true
unfolding soundness_checks sender_checks
loud_length c q e n =
    go (not (holds_sound c.book (held_in c.book c.table))) (numbers_spent c.book.values c.body) (output_short c.asked) (length_fits c.body) _ e
  where
    go : (s a b l : Bool) (v : Verdict)
        → cond s (Err (by.Operator 42 silent))
        (cond a (Err (by.Operator 43 silent)) (cond b (Err (by.Operator 44 silent)) (cond (not l) (Err (by.Line 10 silent)) v))) ≡ Err q
        → l ≡ true
    go true a b l v h = absurd (true≢false (ap silent_in h ∙ n))
    go false true b l v h = absurd (true≢false (ap silent_in h ∙ n))
    go false false true l v h = absurd (true≢false (ap silent_in h ∙ n))
    go false false false true v h = refl
    go false false false false v h = absurd (true≢false (ap silent_in h ∙ n))

module _ (b : Book) (ps : List Pool) (body : List ℕ) (caller : Caller) (out : List ℕ) (q : Reason)
    (d : DecidedBy checks (call_with b ps body caller out) (Err q)) where
  abbrev refused : Answer
  refused = refusal (type_of body) q

  pub header_sent : is_silent refused ≡ false → header_width ≤ length body
  header_sent n = header_there body (loud_length (call_with b ps body caller out) q (sym d.verdict) (sym (refusal_silent (type_of body) q) ∙ n))

  said : answer_of (call_with b ps body caller out) ≡ refused
  unfolding answer_of
  said = ap (answer_to (call_with b ps body caller out)) (sym d.verdict)

  -- the counters move alone
  pub refused_frame : (r : Stepped) (out' : List ℕ) → r.answer ≡ refused → r.book ≡ with_counters b body refused → out' ≡ output_for b body refused caller out
      → Framed b ps body caller out r ps out'
  unfolding book_after table_after output_after with_counters
  refused_frame r out' ea eb eo =
      record {
        answer = ea ∙ sym said;
        book = eb ∙ rw (said, refusal_refuses (type_of body) q);
        table = rw (said, refusal_refuses (type_of body) q);
        output = eo ∙ rw said;
      }
