-- The library's first index is the first trade of the definition.
use Rattle.std.proofs.Common.{rules, tests, ◌≡◌, ◌&&◌, ℕ, leb}
use Rattle.std.proofs.lemmas.Iterator.{YieldsList-from_slice}
use Rattle.std.proofs.lemmas.Iterator.Search.{position_from_yields_List}
use Rattle.std.specs.List.{position}
use Rattle.book.specs.declared.Trade.{Trade}
use Rattle.book.specs.Trades.{agrees}
use Rattle.check_terms.proofs.Searching.{own, first_is}
use Rattle.check_terms.proofs.find_holding.Goals as goal

pub returns : goal.returns
returns c =
    let a = c.args in
    let ts = c.opened_trades-trades.result.now in
    let p = λ (t : Trade) (left : ℕ). agrees a.body.now t && leb a.weight left in
    let all = YieldsList-from_slice ts c.iter.ensures.rest in
    let found : c.position.result ≡ position (own p) ts =
    position_from_yields_List (own p) _ _ c.position.result c.position.ensures.ran all (λ x b q k. search (rules, tests)) in
    cc (first_is p ts)
