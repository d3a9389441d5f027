-- Every trade is set to par in its place.
use Rattle.std.proofs.Common.{◌≡◌, ℕ, ◌<◌, ◌∙◌, arith, rules, map, length, get_or}
use Rattle.std.proofs.lemmas.List.{get_or_default}
use Rattle.book.specs.declared.Trade.{Trade}
use Rattle.book.specs.Checks.{no_trade}
use Rattle.book.specs.Opening.{at_par, opened}
use Rattle.check_opening.proofs.Opened.{map_is}
use Rattle.check_opening.proofs.opened_book.Goals as goal

pub returns : goal.returns
unfolding opened
returns c =
    let ts = c.args.v.trades in
    let us = c.loop-t.t-items in
    let long : length us ≡ length ts = c.loop-t.invariant.long in
    let all : c.loop-t.t-index ≡ length us = search rules in
    let each : (i : ℕ) (e : Trade) → i < length ts → get_or us i e ≡ at_par (get_or ts i no_trade) =
    λ i e h. get_or_default us i e no_trade (omega (arith, long)) ∙ c.loop-t.invariant.done i (omega (arith, all, long)) in
    let opened : us ≡ map at_par ts = map_is at_par ts us no_trade long each in
    rw (opened, c.start-values.ensures)
