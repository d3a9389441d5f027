-- The digits read so far give n, which is below ten to their number, and what is left of the field after n still gives the whole number.
use Rattle.std.proofs.Common.{◌≡◌, ◌<◌, ◌≤◌, ◌^◌, drop, length}
use Rattle.fields.specs.Fields.{digits_max, number_from, read_number}
use Rattle.fields.proofs.read_number.Given as goal

abbrev pub invariant-loop-b : goal.invariant-loop-b
invariant-loop-b l = record {
  below : l.n < 10 ^ l.b-index;
  fits : length l.b-items ≤ digits_max;
  left : number_from l.n (drop l.b-index l.b-items) ≡ read_number l.s l.at l.width;
}
