-- A sound line stays sound: a number that is processed is at most the highest, and is followed by the one that is then expected.
use Rattle.std.proofs.Common.{◌≡◌, refl, true, arith}
use Rattle.std.proofs.lemmas.Bool.Decides.{nat_tests}
use Rattle.sequence.specs.declared.Inbound.{Inbound}
use Rattle.sequence.specs.declared.Line.{Line}
use Rattle.sequence.specs.Sequence.{start_line, arrival_of, line_after, sound_line}

pub start_sound : sound_line start_line ≡ true
unfolding sound_line
start_sound = refl

pub stays_sound : (line : Line) (number : Inbound) → sound_line line ≡ true → sound_line (line_after line number) ≡ true
unfolding arrival_of line_after sound_line
stays_sound line number s = grind (arith, nat_tests)
