-- The records of the pools that a message lists, among those of its target (01, number 37).
use Rattle.std.specs.Prelude.{ℕ, ◌-◌, ◌≤◌, ◌<◌, ◌≡◌, List, Bool, true, false, ◌&&◌, ◌||◌, get_or, Option, is_some, IfSome}
use Rattle.lists.specs.Lists.{part, any, all}
use Rattle.layout.specs.declared.Detail.{Detail}
use Rattle.layout.specs.Details.{pool_count, detail_at, place_of}
use Rattle.terminator.specs.Terminators.{is_canceled}
use Rattle.message_type.specs.declared.MessageType.{MessageType}
use Rattle.message_type.specs.Questions.{lists_lots, lists_all}
use Rattle.book.specs.declared.Pool.{Pool}
use Rattle.book.specs.Records.{Fields, fields_of, live_fields, same_fields, no_pool}
use Rattle.book.specs.Messages.{type_of, listed}
use Rattle.rows_find.specs.declared.Run.{Run}

-- whether a message of a type lists a pool: a DK each one, a CC the canceled ones
abbrev pub lists : MessageType → Detail → Bool
lists t d = lists_lots t && (lists_all t || is_canceled d)

-- the records of a run
abbrev pub run_records : List Pool → Run → List Pool
run_records ps run = part ps run.start (run.stop - run.start)

-- whether some of these records has the fields
abbrev pub stands_in : List Pool → Fields → Bool
stands_in rs f = any (λ (r : Pool). same_fields (live_fields r) f) rs

-- where each listed pool has a record in the run, its place stands in the cell of the pool's index; the cells of other pools, and those past the message's pools, are 0
pub record Placed (body : List ℕ) (ps : List Pool) (run : Run) (at : List ℕ) : Type 0 where
  pub places : (d : ℕ) → d < pool_count body → lists (type_of body) (detail_at body (place_of d)) ≡ true
      → (run.start ≤ get_or at d 0) × (get_or at d 0 < run.stop)
      × (same_fields (live_fields (get_or ps (get_or at d 0) no_pool)) (fields_of (detail_at body (place_of d))) ≡ true)
  pub others : (d : ℕ) → d < pool_count body → lists (type_of body) (detail_at body (place_of d)) ≡ false → get_or at d 0 ≡ 0
  pub past : (d : ℕ) → pool_count body ≤ d → get_or at d 0 ≡ 0

-- what a search finds: places exactly where every listed pool has a record in the run
pub record Finds (body : List ℕ) (ps : List Pool) (run : Run) (r : Option (List ℕ)) : Type 0 where
  pub found : is_some r ≡ all (stands_in (run_records ps run)) (listed body)
  pub placed : IfSome r (Placed body ps run)
