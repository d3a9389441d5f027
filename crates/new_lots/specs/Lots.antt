-- The lots of a message by their sums: what a reader of lots gives. What a lot is, and 35 and the weight of it, are defined in terminator and faces.
use Rattle.std.specs.Prelude.{ℕ, ◌+◌, List, [], ◌∷◌, Bool, cond, ◌&&◌}
use Rattle.layout.specs.declared.Detail.{Detail}
use Rattle.detail_reader.specs.Left.{details_left}
use Rattle.terminator.specs.Terminators.{is_end, is_new, is_good, kind_of, millions_of, term}
use Rattle.terminator.specs.Lots.{current_cents, weight_of}
use Rattle.faces.specs.Faces.{good_lot_fails}
use Rattle.new_lots.specs.declared.LotSum.{LotSum}
use Rattle.new_lots.specs.declared.Lots.{Lots}

-- the lot that a pool ends, after so many cents and pools since the last end
abbrev pub lot_ended : ℕ → ℕ → Detail → LotSum
lot_ended cents pools d =
    record {
      end = term d;
      new = is_new d;
      cents = cents + current_cents d;
      pools = pools + 1;
      weight = weight_of (kind_of (term d)) (millions_of (term d)) (cents + current_cents d);
    }

-- the lots that some pools make, after so many cents and pools since the last end
abbrev pub lots_after : ℕ → ℕ → List Detail → List LotSum
lots_after cents pools [] = []
lots_after cents pools (d ∷ ds) =
    cond (is_end (term d)) (lot_ended cents pools d ∷ lots_after 0 0 ds) (lots_after (cents + current_cents d) (pools + 1) ds)

-- the lots that the reader has still to give
abbrev pub lots_left : Lots → List LotSum
lots_left s = lots_after 0 0 (details_left s.pools)

-- 35 of a lot by its sums
abbrev pub sum_fails : ℕ → ℕ → LotSum → Bool
sum_fails variance pools_a_million l = is_good (kind_of l.end) && good_lot_fails l.cents l.pools (millions_of l.end) variance pools_a_million
