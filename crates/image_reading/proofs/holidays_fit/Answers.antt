-- Those that count are numbers where their join is one.
use Rattle.std.proofs.Common.{◌≡◌, ◌+◌, ◌-◌, arith}
use Rattle.lists.specs.Lists.{part}
use Rattle.image_reading.proofs.Bits.{numbers_joined}
use Rattle.image_reading.proofs.Tables.{holidays_counted}
use Rattle.image_reading.proofs.holidays_fit.Goals as goal

pub returns : goal.returns
unfolding part
returns c =
    let n = c.counted-days.result in
    let e : 1 + n - 1 ≡ n = omega arith in
    rw (c.joined.ensures, numbers_joined, e, c.counted-days.ensures) (holidays_counted c.args.rest.now c.requires)
