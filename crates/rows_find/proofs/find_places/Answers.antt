-- A listed pool has its cell filled where a record is found, and ends the search where none is.
use native.Mathlib.Omega.{arith}
use mathlib.Core.Path.{refl, sym, ◌∙◌}
use lib.ListN.{length-set}
use Rattle.lists.proofs.Tests.{clash}
use Rattle.layout.proofs.Lengths.{count_max}
use Rattle.rows_find.proofs.Seeking.{round_done, sought_none, sought_more, sought_not, finds_all}
use Rattle.rows_find.proofs.find_places.Goals as goal
use Rattle.rows_find.proofs.find_places.Goals.{else-listed-test, then-listed-test+else-not-is_listed+else-j-end+then-again}

pub listed-init : goal.listed-init
listed-init c = record { all = refl; next = (omega arith, c.requires.0); size = refl; sought = sought_none c.args.body.now c.args.pools.now c.args.run }

pub listed-preserved : goal.listed-preserved
listed-preserved c =
    let a = c.args in
    let o = c.listed in
    let l = c.live in
    record {
      all = l.invariant.all;
      next = (omega (arith, l.invariant.place), omega (arith, l.invariant.place));
      size = simp length-set o.invariant.size;
      sought =
          sought_more a.body.now a.pools.now a.run o.d _ _ _ c.message_type-t.ensures c.pool_at-pool.ensures c.is_listed.ensures
          o.at o.invariant.sought c.if-not-is_listed.false
          (omega (arith, o.invariant.size, count_max a.body.now, c.pool_count-d-end.ensures)) l.j l.invariant.place.0 (omega (arith, l.invariant.place))
          (omega (arith, l.invariant.place, c.requires.1)) _ (sym c.same_fields.ensures ∙ c.if-same_fields.true);
    }

pub returns-then-found : goal.returns-then-found
returns-then-found c =
    let a = c.args in
    elim c.listed-test.branch [
      | else-listed-test w ↦ finds_all a.body.now a.pools.now a.run c.requires.0 c.requires.1 c.listed.at c.listed.d c.listed.invariant.sought
          (omega (arith, w.listed-test.false, c.pool_count-d-end.ensures, c.listed.auto.d-end))
      | then-listed-test+else-not-is_listed+else-j-end+then-again w ↦ clash c.if-found.true w.found-is
    ]

pub returns-else-found : goal.returns-else-found
returns-else-found c =
    let a = c.args in
    elim c.listed-test.branch [
      | else-listed-test w ↦ clash (w.found-is ∙ c.listed.invariant.all) c.if-found.false
      | then-listed-test+else-not-is_listed+else-j-end+then-again w ↦
          sought_not a.body.now a.pools.now a.run c.listed.d _ _ _ c.message_type-t.ensures w.pool_at-pool.ensures w.is_listed.ensures w.if-not-is_listed.false
          (omega (arith, w.listed-test.true, c.pool_count-d-end.ensures)) c.requires.0 c.requires.1
          (round_done a.pools.now w.pool_at-pool.result.matched a.run.start a.run.stop c.listed.next
          w.live.again w.live.end w.live.j w.if-again.true w.live.invariant.round w.if-j-end.false)
    ]
