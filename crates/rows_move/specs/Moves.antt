-- What an accepted message leaves of a table (01, "The book"): the records that it does not take off, then those that it brings, then zeros.
use Rattle.std.specs.Prelude.{ℕ, ◌-◌, ◌≤◌, ◌<◌, ◌≡◌, List, ◌++◌, map, not, length, take, drop, get_or, replicate, eqb}
use Rattle.lists.specs.Lists.{keep}
use Rattle.book.specs.declared.Pool.{Pool}
use Rattle.book.specs.Dues.{due}
use Rattle.book.specs.Records.{no_pool, records_of}
use Rattle.book.specs.Messages.{target_of, listed, brought}
use Rattle.book.specs.Checks.{is_taken}

-- what a message does not take off
abbrev pub remaining : List ℕ → List Pool → List Pool
remaining body rs = keep (λ (r : Pool). not (is_taken (target_of body) (listed body) r)) rs

-- what it brings, under its new ID and for its trade
abbrev pub bringing : List ℕ → ℕ → ℕ → List Pool
bringing body message trade = records_of message 1 (map (due trade) (brought body))

-- the first n records: these, and zeros after them
abbrev pub filled : ℕ → List Pool → List Pool
filled n rs = rs ++ replicate (n - length rs) no_pool

-- what a move asks: a mark on each live record that is taken off and on no other, and zeros after the live ones
pub record Movable (body : List ℕ) (ps : List Pool) (live : ℕ) (ms : List ℕ) : Type 0 where
  pub within : live ≤ length ps
  pub marks : live ≤ length ms
  pub told : (i : ℕ) → i < live → eqb (get_or ms i 0) 0 ≡ not (is_taken (target_of body) (listed body) (get_or (take live ps) i no_pool))
  pub zeros : drop live ps ≡ replicate (length ps - live) no_pool
