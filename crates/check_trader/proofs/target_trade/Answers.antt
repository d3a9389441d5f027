-- The records under the target are those of its run.
use native.Mathlib.Omega.{arith}
use Rattle.check_trader.proofs.Deciding.{run_fits, targets_law}
use Rattle.check_trader.proofs.target_trade.Goals as goal

pub offset_bounds-live-run : goal.offset_bounds-live-run
offset_bounds-live-run c =
    let fits = run_fits c.args.body.now c.args.live.now _ c.target_run-run.ensures in
    omega (arith, fits.0, fits.1, c.requires.0)

pub slice_bounds-first_trade-count : goal.slice_bounds-first_trade-count
slice_bounds-first_trade-count c = (run_fits c.args.body.now c.args.live.now _ c.target_run-run.ensures).0

pub slice_bounds-first_trade-start : goal.slice_bounds-first_trade-start
slice_bounds-first_trade-start c = let fits = run_fits c.args.body.now c.args.live.now _ c.target_run-run.ensures in omega (arith, fits.0, fits.1)

pub slice_bounds-first_trade-end : goal.slice_bounds-first_trade-end
slice_bounds-first_trade-end c = let fits = run_fits c.args.body.now c.args.live.now _ c.target_run-run.ensures in omega (arith, fits.0, fits.1)

pub returns : goal.returns
returns c = targets_law c.args.body.now c.args.live.now _ c.target_run-run.ensures c.requires.1 _ c.first_trade.ensures.0 c.first_trade.ensures.1
