-- A record with no mark is kept, behind those that were.
use Rattle.std.proofs.Common.{◌<◌, ◌≡◌, take, get_or, set, length, rules, ap, ◌∙◌, sym}
use lib.Seq.{get_or-take}
use Rattle.rows.proofs.Closing.{closing_none, closing_gone, closing_moved, closed}
use Rattle.rows.proofs.close_up.Goals as goal
use Rattle.rows.proofs.close_up.Goals.{then-not-marked, else-not-marked}

pub loop-i-init : goal.loop-i-init
loop-i-init c = closing_none _ _

pub loop-i-preserved : goal.loop-i-preserved
loop-i-preserved c =
    let ms = c.args.marks.now in
    let ps = c.args.pools.now in
    let l = c.loop-i in
    let g : l.i < c.args.live = search rules in
    let same : get_or (take c.args.live ms) l.i 0 ≡ get_or ms l.i 0 = get_or-take c.args.live ms l.i 0 g in
    let h : l.i < length c.args.marks.now = search rules in
    let k : l.i < length c.args.pools.now = search rules in
    elim c.if-not-marked.branch [
      | then-not-marked w ↦
          rw w.kept-is
          (closing_moved ms ps l.pools l.i l.kept l.invariant h k l.auto.pools _ _ (w.pools-is ∙ ap (set l.pools l.kept) w.put.ensures) (sym same ∙ w.if-not-marked.true))
      | else-not-marked w ↦ rw (w.kept-is, w.pools-is) (closing_gone ms ps l.pools l.i l.kept l.invariant h k l.auto.pools (search rules))
    ]

pub returns : goal.returns
returns c =
    let l = c.loop-i in
    let e : l.i ≡ c.args.live = search rules in
    closed c.args.marks.now c.args.pools.now l.pools c.args.live l.kept _ (rw e at l.invariant) (search rules) (search rules)
