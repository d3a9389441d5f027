-- The bits that were joined are zero where each record so far is zeros.
use Rattle.std.proofs.Common.{◌≡◌, eqb, take}
use Rattle.lists.specs.Lists.{all}
use Rattle.book.specs.Soundness.{is_none}
use Rattle.rows.proofs.blank.Given as goal

abbrev pub invariant-loop-p : goal.invariant-loop-p
invariant-loop-p l = eqb l.all 0 ≡ all is_none (take l.p-index l.pools)
