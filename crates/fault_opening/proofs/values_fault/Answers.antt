-- Each rule is that of the definition, and is asked where none before it is broken.
use Rattle.std.proofs.Common.{◌≡◌, rules, leb, map}
use Rattle.sequence.specs.Sequence.{outbound_max}
use Rattle.book.specs.Trades.{trades_of, trade_name}
use Rattle.book.specs.Opening.{holidays_max, holidays_of, account_fine, eleven_digits_max}
use Rattle.fault.specs.Rules.{test, or_else, each}
use Rattle.fault.specs.Faults.{date_fault, limits_fault, trade_fault, names_fault, values_fault}
use Rattle.fault_opening.proofs.values_fault.Goals as goal

pub returns : goal.returns
unfolding values_fault
returns c =
    let v = c.args.v.now in
    let days : c.or_else.result ≡ or_else c.tested.result (test 103 0 (leb v.lent.holiday_count holidays_max)) = search rules in
    let dates : c.or_else-2.result ≡ or_else c.or_else.result (each date_fault 0 (holidays_of v)) = search rules in
    let subscriber : c.or_else-3.result ≡ or_else c.or_else-2.result (test 105 0 (account_fine v.lent.subscriber)) = search rules in
    let connection : c.or_else-4.result ≡ or_else c.or_else-3.result (test 106 0 (account_fine v.connection.id)) = search rules in
    let limits : c.or_else-5.result ≡ or_else c.or_else-4.result (limits_fault v.lent.limits) = search rules in
    let last : c.or_else-6.result ≡ or_else c.or_else-5.result (test 111 0 (leb v.last_message_id eleven_digits_max)) = search rules in
    let outbound : c.or_else-7.result ≡ or_else c.or_else-6.result (test 112 0 (leb v.connection.outbound.0 outbound_max)) = search rules in
    let trades : c.or_else-8.result ≡ or_else c.or_else-7.result (each (trade_fault (holidays_of v)) 0 (trades_of v)) = search rules in
    let names : c.or_else-9.result ≡ or_else c.or_else-8.result (names_fault 0 (map trade_name (trades_of v))) = search rules in
    rw (names, trades, outbound, last, limits, connection, subscriber, dates, days, c.tested.ensures)
