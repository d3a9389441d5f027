-- What the search for a message's listed pools asks of the table, and what it decides (01, number 37).
use Rattle.std.specs.Prelude.{ℕ, ◌≤◌, ◌<◌, ◌≡◌, List, true, cond, not, ◌&&◌, ◌||◌, length, get_or, eqb, Option, is_some, IfSome}
use Rattle.std.specs.List.{position_or_len}
use Rattle.layout.specs.declared.Detail.{Detail}
use Rattle.layout.specs.Details.{details}
use Rattle.terminator.specs.Lots.{formed_for}
use Rattle.book.specs.declared.Pool.{Pool}
use Rattle.book.specs.Records.{fields_of, live_fields, same_fields, no_pool}
use Rattle.book.specs.Messages.{type_of, target_of, under, listed}
use Rattle.book.specs.Opening.{records_max}
use Rattle.book.specs.Soundness.{in_order, fields_once}
use Rattle.book.specs.Checks.{is_taken, listed_fine}
use Rattle.message_type.specs.Questions.{is_cc, lists_lots}
use Rattle.rows_find.specs.Finding.{lists}
use Rattle.check_listed.specs.Marks.{entries_from, mark_all, no_marks, unmarked}

-- live records in order (42) whose fields differ within a message (42), and a CC's pools formed into lots (19)
pub record Findable (body : List ℕ) (rs : List Pool) : Type 0 where
  pub few : length rs ≤ records_max
  pub ordered : in_order rs ≡ true
  pub once : fields_once rs ≡ true
  pub formed : is_cc (type_of body) ≡ true → formed_for true (details body) ≡ true

-- the place of a pool that a message lists: that of the first live record under the target with its fields
abbrev pub place_in : List ℕ → List Pool → Detail → ℕ
place_in body rs d = cond (lists (type_of body) d) (position_or_len (λ (r : Pool). under (target_of body) r && same_fields (live_fields r) (fields_of d)) rs) 0

-- the marks of a CC or DK: each listed pool marks its record with the number of its lot
unfoldable pub marks_in : List ℕ → List Pool → List ℕ
marks_in body rs = (mark_all unmarked (entries_from (is_cc (type_of body)) (place_in body rs) 1 (details body))).marks

-- the marks of a message of any type: one that is no CC or DK has none
unfoldable pub marks_taken : List ℕ → List Pool → List ℕ
marks_taken body rs = cond (lists_lots (type_of body)) (marks_in body rs) no_marks

-- the marks of what a message takes off: one on each live record that it takes off and on no other
pub record Taken (body : List ℕ) (rs : List Pool) (ms : List ℕ) : Type 0 where
  pub size : length ms ≡ records_max
  pub marked : (i : ℕ) → i < length rs → eqb (get_or ms i 0) 0 ≡ not (is_taken (target_of body) (listed body) (get_or rs i no_pool))
  pub whole : ms ≡ marks_taken body rs

-- what a message takes off: marks exactly where it passes 37, if that is for its type
pub record Takes (body : List ℕ) (rs : List Pool) (r : Option (List ℕ)) : Type 0 where
  pub fine : is_some r ≡ (not (lists_lots (type_of body)) || listed_fine body rs)
  pub taken : IfSome r (Taken body rs)
