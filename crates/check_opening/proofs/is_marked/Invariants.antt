-- What was found among the marks so far is the answer for these.
use Rattle.std.proofs.Common.{◌≡◌, take, eqb}
use Rattle.lists.specs.Lists.{any}
use Rattle.check_opening.proofs.is_marked.Given as goal

abbrev pub invariant-loop-m : goal.invariant-loop-m
invariant-loop-m l = l.found ≡ any (eqb l.mark) (take l.m-index l.marks)
