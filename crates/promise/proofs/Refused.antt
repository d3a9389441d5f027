-- A refused opening leaves nothing to call on: what it gives back has one trade too many, so that 42 refuses every call on it, whatever table, body, caller and
-- output are lent. Nothing moves, and no trade is known.
use Prim.Native.Nat.{ℕ}
use mathlib.Core.Path.{◌≡◌, ◌∙◌}
use mathlib.Core.List.{List}
use mathlib.Core.Bool.{false}
use Rattle.std.specs.Prelude.{Option, None, Err}
use Rattle.book.specs.declared.Caller.{Caller}
use Rattle.book.specs.declared.Values.{Values}
use Rattle.book.specs.declared.Book.{Book}
use Rattle.book.specs.declared.Pool.{Pool}
use Rattle.book.specs.declared.Answer.TheVariants.{Rejected}
use Rattle.book.specs.Reasons.{book_unsound}
use Rattle.book.specs.Soundness.{is_sound}
use Rattle.book.specs.Step.{call_with}
use Rattle.book.proofs.Unsound.{unsound_answer, unsound_book, unsound_table, unsound_output, unopened_unsound}
use Rattle.calls.specs.declared.Figures.{Figures}
use Rattle.calls.specs.declared.Stepped.{Stepped}
use Rattle.calls.specs.Calls.{Framed, Opens, Says}
use Rattle.calls.proofs.Opening.{refused}
use Rattle.calls.proofs.Unsound.{unsound_figures}

module _ (v : Values) (pools pools' : List Pool) (b : Book) (o : Opens v pools (Err b) pools') where
  pub refused_unsound : (table : List Pool) → is_sound b table ≡ false
  refused_unsound table = rw (refused v pools pools' b o).1 (unopened_unsound v table)

  -- a frame call on it, known by its contract
  pub refused_steps : (table : List Pool) (body : List ℕ) (caller : Caller) (out : List ℕ) (r : Stepped) (table' : List Pool) (out' : List ℕ) → Framed b table body caller out r table' out'
      → (r.answer ≡ Rejected book_unsound) × (r.book ≡ b) × (table' ≡ table) × (out' ≡ out)
  refused_steps table body caller out r table' out' f =
      let c = call_with b table body caller out in
      let e = refused_unsound table in
      (f.answer ∙ unsound_answer c e, f.book ∙ unsound_book c e, f.table ∙ unsound_table c e, f.output ∙ unsound_output c e out)

  -- a question for a trade's figures
  pub refused_figures : (table : List Pool) (trade : ℕ) (r : Option Figures) → Says b table trade r → r ≡ None
  refused_figures table trade r says = says.figures ∙ unsound_figures b table trade (refused_unsound table)
