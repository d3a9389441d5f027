-- A message of another type than a CC or DK takes nothing off.
use Prim.Native.Nat.{ℕ}
use mathlib.Core.Path.{◌≡◌}
use mathlib.Core.List.{List, []}
use mathlib.Core.Bool.{false, and-false}
use lib.ListN.{length-replicate}
use Rattle.std.specs.Prelude.{Some}
use Rattle.book.specs.declared.Pool.{Pool}
use Rattle.book.specs.Messages.{type_of, listed}
use Rattle.book.specs.Opening.{records_max}
use Rattle.message_type.specs.Questions.{lists_lots}
use Rattle.book.proofs.Pools.{listed_none}
use Rattle.rows_find.proofs.Cells.{get_d_zeros}
use Rattle.check_listed.specs.Marks.{no_marks}
use Rattle.check_listed.specs.Listing.{marks_taken, Takes}

pub takes_none : (body : List ℕ) (rs : List Pool) → lists_lots (type_of body) ≡ false → Takes body rs (Some no_marks)
unfolding marks_taken
takes_none body rs n =
    let l : listed body ≡ [] = listed_none body n in
    record {
      fine = rw n;
      taken = record { size = length-replicate {A = ℕ} records_max 0; marked = λ i g. rw (l, and-false, get_d_zeros records_max i); whole = rw n };
    }
