-- The rows after a frame call: the numbers of the call's answer raise what that answer raises.
use Rattle.std.specs.Prelude.{Err, Ok}
use Prim.Native.Nat.{ℕ, ◌+◌}
use mathlib.Core.Path.{◌≡◌, refl, ap, ◌∙◌}
use mathlib.Core.List.{List, ◌∷◌, ◌++◌}
use mathlib.Core.Bool.{Bool, true, false, cond, not, ◌&&◌}
use lib.ListN.{length}
use native.Mathlib.Omega.{arith}
use borrow.Author.Tests.{eq-eqb, le-ltb, not-true}
use Rattle.lists.specs.Lists.{all}
use Rattle.tally.specs.declared.Outcome.{Outcome}
use Rattle.tally.specs.declared.Outcome.TheVariants as outcome
use Rattle.tally.specs.Tally.{raised}
use Rattle.book.specs.declared.Reason.{Reason}
use Rattle.book.specs.declared.Answer.TheVariants.{Rejected, Dked}
use Rattle.book.specs.Reasons.{Verdict}
use Rattle.book.specs.Messages.{type_of}
use Rattle.book.specs.Reasons.{number_of, is_silent_for, is_traders}
use Rattle.book.specs.Checks.{Call, Check, soundness_checks, sender_checks, terms_checks, moves_checks, checks, first_failing, answer_to, answer_of}
use Rattle.book.specs.Step.{tally_after}
use Rattle.book.proofs.Firsts.{first_among}
use Rattle.message_type.specs.Questions.{answers_as_dk}
use Rattle.exports_numbers.specs.Said.{said_of, is_told, heard, heard_as, heard_in}
use Rattle.calls_words.specs.Tally.{raised_by, rows_after}

-- a check's number is told just where its reason is not silent
abbrev pub tells : Reason → Bool
tells r = cond (is_silent_for r) (not (is_told (number_of r))) (is_told (number_of r))

tells_all : all (λ (k : Check). tells k.reason) checks ≡ true
unfolding is_told soundness_checks sender_checks terms_checks moves_checks
tells_all = refl

told_is : (r : Reason) → tells r ≡ true → is_told (number_of r) ≡ not (is_silent_for r)
told_is r e = go (is_silent_for r) e
  where
    go : (s : Bool) → cond s (not (is_told (number_of r))) (is_told (number_of r)) ≡ true → is_told (number_of r) ≡ not s
    go true h = not-true (is_told (number_of r)) h
    go false h = h

heard_two : (x y : ℕ) (rest : List ℕ) → heard_in (x ∷ y ∷ rest) ≡ heard_as x y
unfolding heard_in
heard_two x y rest = rw (le-ltb (length (x ∷ y ∷ rest)) 2 (omega arith))

module _ (body : List ℕ) (rows : List (List ℕ)) where
  -- what a reason's numbers raise, rejected or DKed
  tells_raise : (x : ℕ) (r : Reason) (rest : List ℕ) (o : Outcome) → heard_as x (number_of r) ≡ heard (is_told (number_of r)) o → tells r ≡ true
      → raised_by body rows (heard_in (x ∷ number_of r ∷ rest)) ≡ cond (is_silent_for r) rows (raised rows (type_of body) o)
  tells_raise x r rest o e t =
      ap (raised_by body rows) (heard_two x (number_of r) rest ∙ e ∙ ap (λ (b : Bool). heard b o) (told_is r t)) ∙ quiet (is_silent_for r)
    where
      quiet : (s : Bool) → raised_by body rows (heard (not s) o) ≡ cond s rows (raised rows (type_of body) o)
      quiet true = refl
      quiet false = refl

  -- so do the numbers of a rejection for it
  pub counted_rejected : (r : Reason) (rest : List ℕ) → tells r ≡ true → length rows ≡ 4 → rows_after body (said_of (Rejected r) ++ rest) rows ≡ tally_after body (Rejected r) rows
  unfolding rows_after heard_as tally_after
  counted_rejected r rest t h = rw (eq-eqb (length rows) 4 h) (tells_raise 1 r rest outcome.Rejected refl t)

  -- the numbers of a call's answer raise what that answer raises
  pub counted : (c : Call) (rest : List ℕ) → length rows ≡ 4 → rows_after body (said_of (answer_of c) ++ rest) rows ≡ tally_after body (answer_of c) rows
  unfolding rows_after heard_as tally_after answer_of
  counted c rest h = rw (eq-eqb (length rows) 4 h) (go (first_failing checks c) refl)
    where
      refused : (r : Reason) → tells r ≡ true → (b : Bool)
          → raised_by body rows (heard_in (said_of (cond b (Dked r) (Rejected r)) ++ rest)) ≡ tally_after body (cond b (Dked r) (Rejected r)) rows
      refused r t true = tells_raise 2 r rest outcome.Dked refl t
      refused r t false = tells_raise 1 r rest outcome.Rejected refl t

      go : (v : Verdict) → first_failing checks c ≡ v → raised_by body rows (heard_in (said_of (answer_to c v) ++ rest)) ≡ tally_after body (answer_to c v) rows
      go (Ok u) e = ap (raised_by body rows) (heard_two 0 (c.book.values.last_message_id + 1) rest)
      go (Err r) e = refused r (first_among tells c checks r tells_all e) (is_traders r && not (answers_as_dk (type_of c.body)))
