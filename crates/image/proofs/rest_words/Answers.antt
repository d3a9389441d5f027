-- The parts of the row, end to end, are the words of all of a book but its trades.
use Rattle.std.proofs.Common.{refl}
use Rattle.acknowledgment.proofs.Building.{first, filled}
use Rattle.image.specs.Images.{rest_image}
use Rattle.image.proofs.Joining.{more}
use Rattle.image.proofs.rest_words.Goals as goal

pub returns : goal.returns
unfolding rest_image
returns c =
    let count = first 1 c.put.ensures refl refl in
    let holidays = more 32 count c.put-2.ensures c.date_words.ensures c.date_words.type_inv.1.0.1 in
    let days = more 1 holidays c.put-3.ensures refl refl in
    let subscriber = more 4 days c.put-4.ensures c.words_of.ensures c.words_of.type_inv.1.0.1 in
    let connection = more 4 subscriber c.put-5.ensures c.words_of-2.ensures c.words_of-2.type_inv.1.0.1 in
    filled (more 10 connection c.put-6.ensures (rw (c.from.ensures, c.flag_of.ensures, c.last_of.ensures, c.from-2.ensures)) refl) refl
