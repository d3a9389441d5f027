-- What is left leads to the groups that all pools lead to, and the group at hand is no larger than the pools passed.
use Rattle.std.proofs.Common.{◌≡◌, ◌-◌, ◌≤◌, length}
use Rattle.lists.specs.Lists.{fold}
use Rattle.layout.specs.Details.{details, pools_max}
use Rattle.detail_reader.specs.Left.{details_left}
use Rattle.groups.specs.Runs.{run_on, Small}
use Rattle.groups.proofs.Runs.{no_groups}
use Rattle.groups.proofs.groups_of.Given as goal

abbrev pub invariant-loop-d : goal.invariant-loop-d
invariant-loop-d l = record {
  same : fold run_on l.run (details_left l.d-iterator) ≡ fold run_on no_groups (details l.body);
  few : length (details_left l.d-iterator) ≤ pools_max;
  small : Small (pools_max - length (details_left l.d-iterator)) l.run;
}
