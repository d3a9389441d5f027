-- The weight of a place is that of its trade's lots.
use Rattle.std.proofs.Common.{◌≡◌, ◌≤◌, ◌∙◌, arith, length, take, rules, length-take}
use Rattle.fault.specs.Rules.{test, each}
use Rattle.table_fault.specs.Pars.{makes_par}
use Rattle.book.specs.Trades.{trades_of}
use Rattle.rows.proofs.Runs.{trade_weight_runs}
use Rattle.table_fault.proofs.ByPlace.{pars_by_place}
use Rattle.table_fault.proofs.pars_fault.Goals as goal

pub returns : goal.returns
returns c =
    let walked : c.first_of.result ≡ each (λ i t. test 161 i (makes_par c.weights-weights.result i t)) 0 c.opened_trades.result.now = search rules in
    let v = c.args.values.now in
    let rs = c.args.live.now in
    let p = c.requires in
    let long : length c.weights-weights.result ≡ 64 = search rules in
    let few : length (take v.lent.trade_count v.trades) ≤ 64 = omega (arith, length-take v.lent.trade_count v.trades) in
    walked
    ∙ rw c.opened_trades.ensures
    (pars_by_place c.weights-weights.result rs (λ k h. c.weights-weights.ensures k (omega arith) ∙ trade_weight_runs v rs p.3 p.2 k) 0 (trades_of v) (omega arith))
