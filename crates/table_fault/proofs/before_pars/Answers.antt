-- Each rule is that of the definition, and is asked where none before it is broken.
use Rattle.std.proofs.Common.{◌≡◌, rules, leb, length, drop}
use Rattle.sequence.specs.Sequence.{sound_line}
use Rattle.fault.specs.Rules.{test, or_else, each}
use Rattle.fault.specs.Faults.{record_fault, order_fault, once_fault, zeros_fault, table_fault}
use Rattle.table_fault.proofs.Live.{zeros_are}
use Rattle.table_fault.proofs.before_pars.Goals as goal

pub returns : goal.returns
unfolding table_fault
returns c =
    let line : c.or_else.result ≡ or_else c.opening_fault.result (test 142 0 (sound_line c.args.book.now.values.connection.line)) = search rules in
    let number : c.or_else-2.result ≡ or_else c.or_else.result (test 143 0 (leb c.args.book.now.live (length c.args.pools.now))) = search rules in
    let single : c.or_else-3.result ≡ or_else c.or_else-2.result (each (record_fault c.args.book.now.values) 0 c.args.live.now) = search rules in
    let order : c.or_else-4.result ≡ or_else c.or_else-3.result (order_fault 0 c.args.live.now) = search rules in
    let once : c.or_else-5.result ≡ or_else c.or_else-4.result (once_fault 0 c.args.live.now) = search rules in
    let zeros : c.or_else-6.result ≡ or_else c.or_else-5.result (each zeros_fault (length c.args.live.now) (drop (length c.args.live.now) c.args.pools.now)) = search rules in
    rw (zeros, once, order, single, number, line, c.opening_fault.ensures, zeros_are c.args.book.now.live c.args.pools.now (length c.args.live.now) c.requires.1, c.requires.0)
