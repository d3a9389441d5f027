-- The trades are looked through as their IDs are.
use Rattle.std.proofs.Common.{◌≡◌, ◌∙◌, rules}
use Rattle.fault.specs.Rules.{first_of}
use Rattle.fault_opening.proofs.Repeats.{repeats, repeats_is}
use Rattle.fault_opening.proofs.names_fault.Goals as goal

pub returns : goal.returns
returns c =
    let walked : c.first_of.result ≡ first_of repeats 0 c.args.trades.now = search rules in
    walked ∙ repeats_is 0 c.args.trades.now
