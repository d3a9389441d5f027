-- The records taken in have no twins, and the two arrays hold those of each bucket.
use Rattle.std.proofs.Common.{refl, replicate, arith, rules}
use Rattle.book.specs.Opening.{records_max}
use Rattle.check_once.proofs.Chains.{seen_none, linked_none, seen_last, linked_more, seen_more}
use Rattle.check_once.proofs.Twins.{live_rises, once_none, run_before, once_more, once_stop, once_done}
use Rattle.check_once.proofs.search.Goals as goal

pub loop-i-init : goal.loop-i-init
loop-i-init c =
    let k = c.new-spread.result.numbers in
    let rs = c.args.live.now in
    record { seen_long = search rules; back_long = search rules; seen = seen_none k rs; back = linked_none k rs (replicate records_max 0); once = once_none rs }

pub run_of-start-requires : goal.run_of-start-requires
run_of-start-requires c = (omega (arith, c.loop-i.invariant.once.run.before), omega arith)

pub stands-requires : goal.stands-requires
stands-requires c =
    let k = c.new-spread.result.numbers in
    let rs = c.args.live.now in
    let l = c.loop-i in
    let v = l.invariant in
    let b = c.bucket-bucket.ensures in
    record {
      in_bounds = (omega arith, omega arith, run_before rs l.start l.i (live_rises rs c.requires.1) v.once c.loop-i-test.true _ c.run_of-start.ensures);
      chain = record { spread = k; last = seen_last k rs l.seen l.back l.i v.seen v.back _ b.0 b.1 _ c.from.ensures; links = v.back };
    }

pub returns-then-stands : goal.returns-then-stands
returns-then-stands c =
    let rs = c.args.live.now in
    let l = c.loop-i in
    once_stop rs l.start l.i (live_rises rs c.requires.1) l.invariant.once c.loop-i-test.true _ c.run_of-start.ensures _ c.stands.ensures c.if-stands.true

pub loop-i-preserved : goal.loop-i-preserved
loop-i-preserved c =
    let k = c.new-spread.result.numbers in
    let rs = c.args.live.now in
    let l = c.loop-i in
    let v = l.invariant in
    let b = c.bucket-bucket.ensures in
    record {
      seen_long = search rules;
      back_long = search rules;
      seen = seen_more k rs l.seen l.back l.i v.seen v.back _ b.0 b.1 (omega arith) _ refl;
      back = linked_more k rs l.seen l.back l.i v.seen v.back _ b.0 b.1 (omega arith);
      once = once_more rs l.start l.i (live_rises rs c.requires.1) v.once c.loop-i-test.true _ c.run_of-start.ensures _ c.stands.ensures c.if-stands.false;
    }

pub returns : goal.returns
returns c = once_done c.args.live.now c.loop-i.start c.loop-i.i c.loop-i.invariant.once c.loop-i-test.false
