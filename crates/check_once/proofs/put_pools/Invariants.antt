-- The records written and those of the pools to come are always the records of all the new pools.
use Rattle.std.proofs.Common.{◌≡◌, ◌≤◌, ◌+◌, ◌++◌, length, map, take}
use Rattle.layout.specs.Details.{pools_max, details}
use Rattle.detail_reader.specs.Left.{details_left}
use Rattle.faces.specs.Faces.{new_pools}
use Rattle.check_once.specs.Seen.{pool_with}
use Rattle.check_once.proofs.put_pools.Given as goal

abbrev pub invariant-loop-d : goal.invariant-loop-d
invariant-loop-d l =
    record {
      few : l.n + length (details_left l.d-iterator) ≤ pools_max;
      long : length l.pools ≡ pools_max;
      written : take l.n l.pools ++ map pool_with (new_pools (details_left l.d-iterator)) ≡ map pool_with (new_pools (details l.body));
    }
