-- The parts of the row, end to end, are the trade's words.
use mathlib.Core.Path.{refl}
use Rattle.acknowledgment.proofs.Building.{first, filled}
use Rattle.image.specs.Images.{trade_image}
use Rattle.image.proofs.Joining.{more}
use Rattle.image.proofs.trade_words.Goals as goal

pub returns : goal.returns
unfolding trade_image
returns c =
    let id = first 16 c.put.ensures c.words_of.ensures c.words_of.type_inv.1.0.1 in
    let length = more 1 id c.put-2.ensures refl refl in
    let seller = more 4 length c.put-3.ensures c.words_of-2.ensures c.words_of-2.type_inv.1.0.1 in
    let buyer = more 4 seller c.put-4.ensures c.words_of-3.ensures c.words_of-3.type_inv.1.0.1 in
    let contra = more 4 buyer c.put-5.ensures c.words_of-4.ensures c.words_of-4.type_inv.1.0.1 in
    let cusip = more 9 contra c.put-6.ensures c.words_of-5.ensures c.words_of-5.type_inv.1.0.1 in
    filled (more 4 cusip c.put-7.ensures refl refl) refl
