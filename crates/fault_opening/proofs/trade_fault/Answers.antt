-- Each test is that of the definition.
use Rattle.std.proofs.Common.{◌≡◌, ◌∙◌, rules}
use Rattle.lists.specs.Lists.{between}
use Rattle.book.specs.Opening.{price_max, eleven_digits_max}
use Rattle.fault.specs.Faults.{trade_fault}
use Rattle.fault_opening.proofs.trade_fault.Goals as goal

pub returns : goal.returns
unfolding trade_fault
returns c =
    let price : c.contains-price.result ≡ between 1 price_max c.args.t.now.price = search rules in
    let par : c.contains-par.result ≡ between 1 eleven_digits_max c.args.t.now.par = search rules in
    c.broken.ensures
    ∙ rw (c.id_fine.ensures, c.account_fine.ensures, c.account_fine-2.ensures, c.ne.ensures, c.contra_fine.ensures, c.cusip_fine.ensures, c.business_date-date.ensures, price, par)
