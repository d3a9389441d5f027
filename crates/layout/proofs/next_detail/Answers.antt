-- Where no whole detail is left there is nothing; else the detail stands at the place, and the next one follows it.
use native.Mathlib.Omega.{arith}
use Rattle.layout.proofs.Reader.{at_end, at_detail}
use Rattle.layout.proofs.next_detail.Goals as goal

pub returns-then-saturating_sub-lt-DETAIL_WIDTH : goal.returns-then-saturating_sub-lt-DETAIL_WIDTH
returns-then-saturating_sub-lt-DETAIL_WIDTH c = at_end _ _ (omega arith)

pub returns : goal.returns
returns c = rw c.detail_at.ensures (at_detail _ _ (omega arith))
