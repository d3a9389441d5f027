-- Fine records are light, and their weights by place are those of the trades.
use Rattle.std.proofs.Common.{List, ◌≡◌, ◌≤◌, ℕ, arith, rules, take, length, ap, ◌∙◌, length-take}
use Rattle.std.specs.List.{zip}
use Rattle.lists.specs.Lists.{all}
use Rattle.book.specs.declared.Trade.{Trade}
use Rattle.book.specs.Records.{trade_weight}
use Rattle.rows.proofs.Runs.{trade_weight_runs}
use Rattle.check_soundness.specs.Parts.{makes_up}
use Rattle.check_soundness.proofs.Whole.{light, pars_zip}
use Rattle.check_soundness.proofs.pars_fine.Goals as goal

pub weights-requires : goal.weights-requires
weights-requires c = (c.requires.1, light c.args.values.now c.requires.0 c.args.live.now c.requires.2)

pub returns : goal.returns
returns c =
    let v = c.args.values.now in
    let rs = c.args.live.now in
    let p = c.requires in
    let few : length (take v.lent.trade_count v.trades) ≤ 64 = omega (arith, length-take v.lent.trade_count v.trades) in
    let long : length c.weights.result ≡ 64 = search rules in
    c.all_make_up.ensures
    ∙ ap (λ (ts : List Trade). all makes_up (zip ts c.weights.result)) c.opened_trades.ensures
    ∙ pars_zip (take v.lent.trade_count v.trades) c.weights.result rs 0 (omega arith)
    (λ k h. c.weights.ensures k (omega arith) ∙ trade_weight_runs v rs p.3 p.2 k ∙ ap (λ (n : ℕ). trade_weight n rs) (omega arith))
