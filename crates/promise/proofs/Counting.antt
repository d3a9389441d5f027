-- The tally of a run counts the answers of its calls: one call raises the cell that it belongs into and no other, and what is raised one by one up to a
-- full cell is the smaller of the sum and the full cell.
use Prim.Native.Nat.{ℕ, ◌+◌, ◌≤◌, ◌<◌, min}
use mathlib.Core.Path.{◌≡◌, refl, ap, ◌∙◌}
use mathlib.Core.List.{List, [], ◌∷◌, map}
use mathlib.Core.Bool.{Bool, true, false, cond, ◌&&◌}
use native.Mathlib.Omega.{arith}
use lib.ListN.{length, get_or}
use lib.Dec.{eqb, ltb}
use borrow.Author.Tests.{ltb-true, ltb-false}
use Rattle.lists.specs.Lists.{keep}
use Rattle.message_type.specs.declared.MessageType.{MessageType}
use Rattle.message_type.specs.declared.MessageType.TheVariants.{On, Cc, Dk, Cx, Other}
use Rattle.tally.specs.declared.Outcome.{Outcome}
use Rattle.tally.specs.Tally.{row_on, row_cc, row_dk, row_cx, column_of, full_cell, cell, more, raised}
use Rattle.tally.proofs.Cells.{rows_stay, width_stays, cell_after}
use Rattle.book.specs.declared.Answer.{Answer}
use Rattle.book.specs.Reasons.{is_accepted, is_silent}
use Rattle.book.specs.Messages.{type_of}
use Rattle.book.specs.Step.{outcome_of, tally_after}
use Rattle.book.specs.History.{Fed}
use Rattle.book.specs.Promise.{State}
use Rattle.promise.specs.Runs.{Run, done, next}
use Rattle.promise.specs.Counted.{Answered, answered_in, tallied, is_row_of, belongs, count_after}

-- ---- one call

-- the rows stay as many
raised_rows : (rows : List (List ℕ)) (k : MessageType) (o : Outcome) → length (raised rows k o) ≡ length rows
raised_rows rows On o = rows_stay rows row_on (column_of o)
raised_rows rows Cc o = rows_stay rows row_cc (column_of o)
raised_rows rows Dk o = rows_stay rows row_dk (column_of o)
raised_rows rows Cx o = rows_stay rows row_cx (column_of o)
raised_rows rows Other o = refl

pub tally_rows : (body : List ℕ) (a : Answer) (rows : List (List ℕ)) → length (tally_after body a rows) ≡ length rows
unfolding tally_after
tally_rows body a rows = go (is_silent a)
  where
    go : (b : Bool) → length (cond b rows (raised rows (type_of body) (outcome_of a))) ≡ length rows
    go true = refl
    go false = raised_rows rows (type_of body) (outcome_of a)

module _ (row column : ℕ) where
  -- and as wide
  raised_width : (rows : List (List ℕ)) (k : MessageType) (o : Outcome) → row < length rows → length (get_or (raised rows k o) row []) ≡ length (get_or rows row [])
  raised_width rows On o l = width_stays rows row_on (column_of o) row column l
  raised_width rows Cc o l = width_stays rows row_cc (column_of o) row column l
  raised_width rows Dk o l = width_stays rows row_dk (column_of o) row column l
  raised_width rows Cx o l = width_stays rows row_cx (column_of o) row column l
  raised_width rows Other o l = refl

  tally_width : (a : Answered) (rows : List (List ℕ)) → row < length rows → length (get_or (tally_after a.body a.answer rows) row []) ≡ length (get_or rows row [])
  unfolding tally_after
  tally_width a rows l = go (is_silent a.answer)
    where
      go : (b : Bool) → length (get_or (cond b rows (raised rows (type_of a.body) (outcome_of a.answer))) row []) ≡ length (get_or rows row [])
      go true = refl
      go false = raised_width rows (type_of a.body) (outcome_of a.answer) l

  -- the cell is raised where the type has the row and the answer the column
  raised_cell : (rows : List (List ℕ)) (k : MessageType) (o : Outcome) → row < length rows → column < length (get_or rows row [])
      → cell (raised rows k o) row column ≡ cond (is_row_of k row && eqb column (column_of o)) (more (cell rows row column)) (cell rows row column)
  raised_cell rows On o l w = cell_after rows row_on (column_of o) row column l w
  raised_cell rows Cc o l w = cell_after rows row_cc (column_of o) row column l w
  raised_cell rows Dk o l w = cell_after rows row_dk (column_of o) row column l w
  raised_cell rows Cx o l w = cell_after rows row_cx (column_of o) row column l w
  raised_cell rows Other o l w = refl

  tally_cell : (a : Answered) (rows : List (List ℕ)) → row < length rows → column < length (get_or rows row [])
      → cell (tally_after a.body a.answer rows) row column ≡ cond (belongs row column a) (more (cell rows row column)) (cell rows row column)
  unfolding tally_after belongs
  tally_cell a rows l w = go (is_silent a.answer) refl
    where
      go : (b : Bool) → is_silent a.answer ≡ b
          → cell (cond (is_silent a.answer) rows (raised rows (type_of a.body) (outcome_of a.answer))) row column
          ≡ cond (belongs row column a) (more (cell rows row column)) (cell rows row column)
      go true e = rw e
      go false e = rw e (raised_cell rows (type_of a.body) (outcome_of a.answer) l w)

  -- ---- the calls of a list

  -- one more of those that belong into the cell
  one_belongs : (a : Answered) (cs : List Answered) → length (keep (belongs row column) (a ∷ cs)) ≡ cond (belongs row column a) 1 0 + length (keep (belongs row column) cs)
  one_belongs a cs = go (belongs row column a)
    where
      go : (b : Bool) → length (cond b (a ∷ keep (belongs row column) cs) (keep (belongs row column) cs)) ≡ cond b 1 0 + length (keep (belongs row column) cs)
      go true = omega arith
      go false = omega arith

  -- a cell that is raised or not, as a sum cut at the full cell
  raised_sum : (b : Bool) (n : ℕ) → n ≤ full_cell → cond b (more n) n ≡ min full_cell (n + cond b 1 0)
  raised_sum true n h = go (ltb n full_cell) refl
    where
      go : (c : Bool) → ltb n full_cell ≡ c → cond c (n + 1) n ≡ min full_cell (n + 1)
      go true e = omega (arith, ltb-true n full_cell e)
      go false e = omega (arith, ltb-false n full_cell e)
  raised_sum false n h = omega arith

  pub tallied_counts : (cs : List Answered) (rows : List (List ℕ)) → row < length rows → column < length (get_or rows row []) → cell rows row column ≤ full_cell
      → cell (tallied cs rows) row column ≡ count_after row column cs (cell rows row column)
  unfolding tallied count_after
  tallied_counts [] rows l w h = omega arith
  tallied_counts (a ∷ cs) rows l w h =
      let after : List (List ℕ) = tally_after a.body a.answer rows in
      let is : cell after row column ≡ min full_cell (cell rows row column + cond (belongs row column a) 1 0) = tally_cell a rows l w ∙ raised_sum (belongs row column a) (cell rows row column) h in
      let below = tallied_counts cs after (omega (arith, tally_rows a.body a.answer rows)) (omega (arith, tally_width a rows l)) (omega arith) in
      below ∙ omega (arith, one_belongs a cs)

-- ---- a run

-- the answers of a run are those of the calls that feed the history
pub answered_fed : {s s'' : State} {fs : List Fed} (run : Run s fs s'') → map (λ (a : Answered). record { body = a.body; is_accepted = is_accepted a.answer }) (answered_in run) ≡ fs
unfolding answered_in
answered_fed done = refl
answered_fed (next body caller out r pools out' f rest) = ap (λ (fs : List Fed). record { body = body; is_accepted = is_accepted r.answer } ∷ fs) (answered_fed rest)

-- the tally that is raised along a run counts its calls, type by answer; the rows are of any number and width that have the cell
pub tally_counts : {s s'' : State} {fs : List Fed} (run : Run s fs s'') (rows : List (List ℕ)) (row column : ℕ)
    → row < length rows → column < length (get_or rows row []) → cell rows row column ≤ full_cell
    → cell (tallied (answered_in run) rows) row column ≡ count_after row column (answered_in run) (cell rows row column)
tally_counts run rows row column = tallied_counts row column (answered_in run) rows
