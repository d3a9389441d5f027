-- The records of the bucket are gone through from the last to the first, and what lies between them is in other buckets.
use Rattle.std.proofs.Common.{arith, sym, ◌∙◌}
use Rattle.check_once.proofs.Chains.{sought_none, sought_more, sought_less, sought_stop, sought_done}
use Rattle.check_once.proofs.stands.Goals as goal

pub loop-j-init : goal.loop-j-init
loop-j-init c =
    let a = c.args in
    let p = c.requires.chain in
    record { spread = p.spread; sought = sought_none p.spread a.live.now a.i a.last p.last; links = p.links }

pub returns-then-same_fields : goal.returns-then-same_fields
returns-then-same_fields c =
    let a = c.args in
    let l = c.loop-j in
    sought_stop l.invariant.spread a.live.now a.i l.j l.invariant.sought (omega arith) a.start c.loop-j-test.true (sym c.same_fields.ensures ∙ c.if-same_fields.true)

pub loop-j-smaller : goal.loop-j-smaller
loop-j-smaller c =
    let a = c.args in
    let l = c.loop-j in
    sought_less l.invariant.spread a.live.now a.i l.j l.invariant.sought (omega arith) a.back.now l.invariant.links _ c.from-j.ensures

pub loop-j-preserved : goal.loop-j-preserved
loop-j-preserved c =
    let a = c.args in
    let l = c.loop-j in
    record {
      spread = l.invariant.spread;
      sought = sought_more l.invariant.spread a.live.now a.i l.j l.invariant.sought (omega arith) a.back.now l.invariant.links (sym c.same_fields.ensures ∙ c.if-same_fields.false) _ c.from-j.ensures;
      links = l.invariant.links;
    }

pub returns : goal.returns
returns c =
    let a = c.args in
    let l = c.loop-j in
    sought_done l.invariant.spread a.live.now a.i l.j l.invariant.sought a.start c.requires.in_bounds.2 c.loop-j-test.false
