-- A slice that is too short has no room for the image. In any other the trades' words and then those of the rest are the image.
use Rattle.image.proofs.Sized.{trades_length, too_short}
use Rattle.image.proofs.Joining.{image_written}
use Rattle.image.proofs.write_book.Goals as goal

pub returns-then-words-lt-BOOK_WORDS : goal.returns-then-words-lt-BOOK_WORDS
returns-then-words-lt-BOOK_WORDS c = too_short c.args.book _ c.well_formed.1.0 c.args.words.now c.if-words-lt-BOOK_WORDS.true

pub returns : goal.returns
returns c =
    let long = trades_length c.args.book _ c.well_formed.1.0 in
    let rest = c.rest_words in
    image_written c.args.book c.args.words.now _ _ _ c.if-words-lt-BOOK_WORDS.false c.put_trades.ensures long rest.ensures rest.type_inv.1.0.1 c.put.ensures
