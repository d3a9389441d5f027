-- What functions hand over of a lot and of a CC's groups, in the words of Terminators, Lots and Groups.
use Rattle.std.specs.Prelude.{ℕ, Option, Some, None, ◌+◌, List, [], ◌∷◌, length}
use Rattle.lists.specs.Lists.{sum_of}
use Rattle.layout.specs.declared.Detail.{Detail}
use Rattle.terminator.specs.declared.LotHead.{LotHead}
use Rattle.terminator.specs.declared.Groups.{Groups}
use Rattle.terminator.specs.Terminators.{kind_of, millions_of, one, term}
use Rattle.terminator.specs.Lots.{Lot, pools_of, current_cents, weight_of}
use Rattle.terminator.specs.Groups.{groups_formed, groups_balanced}

-- a lot by the pool that ends it, the places of its first and last pool and the sum of its faces
unfoldable pub lot_ended : Detail → ℕ → ℕ → ℕ → LotHead
lot_ended d first last faces =
    record {
      one = one d;
      kind = kind_of (term d);
      millions = millions_of (term d);
      first = first;
      last = last;
      weight = weight_of (kind_of (term d)) (millions_of (term d)) faces;
    }

-- the first of a list of lots, which begins at the pool first
abbrev pub first_lot : ℕ → List Lot → Option LotHead
first_lot first [] = None
first_lot first (l ∷ ls) = Some (lot_ended l.last first (first + length l.middles) (sum_of current_cents (pools_of l)))

-- 20 and 21 together
abbrev pub groups_judged : List Detail → Groups
groups_judged ds = record { formed = groups_formed ds; balanced = groups_balanced ds }
