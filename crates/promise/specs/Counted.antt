-- The tally of a run of frame calls (01, "What goes out"): raised after each call by that call's own answer, and what its cells must then hold.
use Rattle.std.specs.Prelude.{ℕ, ◌+◌, min, List, [], ◌∷◌, Bool, false, not, ◌&&◌, length, eqb}
use Rattle.lists.specs.Lists.{keep}
use Rattle.message_type.specs.declared.MessageType.{MessageType}
use Rattle.message_type.specs.declared.MessageType.TheVariants.{On, Cc, Dk, Cx, Other}
use Rattle.tally.specs.Tally.{row_on, row_cc, row_dk, row_cx, column_of, full_cell}
use Rattle.book.specs.declared.Answer.{Answer}
use Rattle.book.specs.Reasons.{is_silent}
use Rattle.book.specs.Messages.{type_of}
use Rattle.book.specs.Step.{outcome_of, tally_after}
use Rattle.book.specs.History.{Fed}
use Rattle.book.specs.Promise.{State}
use Rattle.promise.specs.Runs.{Run, done, next}

-- a frame call as the tally sees it: the body, and the answer that it got
pub record Answered : Type 0 where
  pub body : List ℕ
  pub answer : Answer

-- those of a run's calls
unfoldable pub answered_in : {s s'' : State} {fs : List Fed} → Run s fs s'' → List Answered
answered_in done = []
answered_in (next body caller out r pools out' f rest) = record { body = body; answer = r.answer } ∷ answered_in rest

-- the tally after calls: each raises it by its own answer
unfoldable pub tallied : List Answered → List (List ℕ) → List (List ℕ)
tallied [] rows = rows
tallied (c ∷ cs) rows = tallied cs (tally_after c.body c.answer rows)

-- whether a row is that of a type; other types have none
abbrev pub is_row_of : MessageType → ℕ → Bool
is_row_of On row = eqb row row_on
is_row_of Cc row = eqb row row_cc
is_row_of Dk row = eqb row row_dk
is_row_of Cx row = eqb row row_cx
is_row_of Other row = false

-- whether a call belongs into a cell, by its type and its answer; silent refusals belong nowhere
unfoldable pub belongs : ℕ → ℕ → Answered → Bool
belongs row column a = not (is_silent a.answer) && (is_row_of (type_of a.body) row && eqb column (column_of (outcome_of a.answer)))

-- what a cell must hold after calls: as many more as belong into it, but a full cell stays full
unfoldable pub count_after : ℕ → ℕ → List Answered → ℕ → ℕ
count_after row column cs before = min full_cell (before + length (keep (belongs row column) cs))
