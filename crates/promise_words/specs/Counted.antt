-- The tally of a run of frame calls on words (01, "What goes out"): raised after each call by the numbers that the call wrote.
use Rattle.std.specs.Prelude.{ℕ, ◌≤◌, List, [], ◌∷◌, length}
use Rattle.book.specs.History.{Fed}
use Rattle.promise.specs.Counted.{Answered}
use Rattle.calls_words.specs.Tally.{rows_after}
use Rattle.promise_words.specs.Runs.{Stored, answer_at, WordsRun, done, next}

-- the bodies of a run's calls, and the answers that they got
unfoldable pub answered_in : {s s'' : Stored} {fs : List Fed} → WordsRun s fs s'' → List Answered
answered_in done = []
answered_in (next {s = s} body time seed out said ws pools out' said' k rest) = record { body = body; answer = answer_at s body time seed out } ∷ answered_in rest

-- each call of a run was lent room for its three numbers
unfoldable pub Roomy : {s s'' : Stored} {fs : List Fed} → WordsRun s fs s'' → Type 0
Roomy done = Unit
Roomy (next body time seed out said ws pools out' said' k rest) = (3 ≤ length said) × Roomy rest

-- four rows after a run: each call is counted by its body and the numbers that it wrote
unfoldable pub rows_along : {s s'' : Stored} {fs : List Fed} → WordsRun s fs s'' → List (List ℕ) → List (List ℕ)
rows_along done rows = rows
rows_along (next body time seed out said ws pools out' said' k rest) rows = rows_along rest (rows_after body said' rows)
