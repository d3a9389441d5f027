-- Marks (01, number 37): each listed pool marks its live record with the number of its lot in the message.
use Rattle.std.specs.Prelude.{ℕ, ◌+◌, ◌-◌, ◌<◌, ◌≡◌, List, [], ◌∷◌, Bool, true, cond, not, ◌&&◌, ◌||◌, get_or, set, replicate, eqb}
use Rattle.lists.specs.Lists.{tab, all}
use Rattle.layout.specs.declared.Detail.{Detail}
use Rattle.layout.specs.Details.{pool_count, detail_at, place_of}
use Rattle.terminator.specs.Terminators.{is_end, term, is_canceled}
use Rattle.book.specs.declared.Pool.{Pool}
use Rattle.book.specs.Records.{same_lot, no_pool}
use Rattle.book.specs.Opening.{records_max}

-- a listed pool by the number of its lot and the place of its record
pub record Entry : Type 0 where
  pub lot : ℕ
  pub place : ℕ

-- whether a message lists a pool: a DK each one, a CC the canceled ones
abbrev pub is_listed : Bool → Detail → Bool
is_listed cc d = not cc || is_canceled d

-- a CC's lots have the numbers from 1 on; all pools of a DK have one number
abbrev pub number_after : Bool → ℕ → Detail → ℕ
number_after cc k d = cond (cc && is_end (term d)) (k + 1) k

-- the entries of some pools, whose lots have the numbers from k on, by the place of each
abbrev pub entries_from : Bool → (Detail → ℕ) → ℕ → List Detail → List Entry
entries_from cc place k [] = []
entries_from cc place k (d ∷ ds) =
    cond (is_listed cc d)
    (record { lot = k; place = place d } ∷ entries_from cc place (number_after cc k d) ds)
    (entries_from cc place (number_after cc k d) ds)

-- marks, and whether no record has been listed twice
pub record Marked : Type 0 where
  pub fine : Bool
  pub marks : List ℕ

-- a record that has a mark is listed twice
abbrev pub mark_place : Marked → Entry → Marked
mark_place s e = record { fine = s.fine && eqb (get_or s.marks e.place 0) 0; marks = set s.marks e.place e.lot }

abbrev pub mark_all : Marked → List Entry → Marked
mark_all s [] = s
mark_all s (e ∷ es) = mark_all (mark_place s e) es

-- no marks
abbrev pub no_marks : List ℕ
no_marks = replicate records_max 0

unfoldable pub unmarked : Marked
unmarked = record { fine = true; marks = no_marks }

-- the place of each pool of a body stands in the cell of its index
abbrev pub Places : (Detail → ℕ) → List ℕ → List ℕ → Type 0
Places place body at = (i : ℕ) → i < pool_count body → get_or at i 0 ≡ place (detail_at body (place_of i))

-- whether a record and the next one, where they are of one lot, have equal marks
abbrev pub even_at : List Pool → List ℕ → ℕ → Bool
even_at ps ms i = not (same_lot (get_or ps i no_pool) (get_or ps (i + 1) no_pool)) || eqb (get_or ms i 0) (get_or ms (i + 1) 0)

-- the same of all neighbors from start up to stop
unfoldable pub marks_even : List Pool → List ℕ → ℕ → ℕ → Bool
marks_even ps ms start stop = all (even_at ps ms) (tab (λ (i : ℕ). i) (stop - 1 - start) start)
