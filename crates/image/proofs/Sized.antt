-- A book's image is as long as a book's types make it: each of its arrays has its length.
use Prim.Native.Nat.{ℕ, ◌*◌, ◌<◌}
use mathlib.Core.Path.{◌≡◌, refl, ◌∙◌}
use mathlib.Core.List.{List, [], ◌∷◌}
use Rattle.std.specs.List.{flat_map}
use native.Mathlib.Omega.{arith}
use lib.ListN.{length, length-append}
use mir.Val.{Val}
use denote.Shadow.{shadow}
use denote.Laws.{Is}
use denote.Array.{each}
use Rattle.lists.specs.Lists.{pasted}
use Rattle.lists.proofs.Pasting.{pasting_short}
use Rattle.book.specs.declared.Trade.{Trade}
use Rattle.book.specs.declared.Book.{Book}
use Rattle.book.specs.contracts.Trade as T
use Rattle.book.specs.contracts.Book as B
use Rattle.image.specs.Images.{trade_words, trades_words, rest_words, book_words, trade_image, rest_image, image_of}

trade_long : (t : Trade) (vs : List Val) → Is T.the_row t vs → length (trade_image t) ≡ trade_words
unfolding trade_image
trade_long t vs p =
    let g = p.1.1 in
    simp length-append
    (omega (arith, g.0.1.0.1, g.1.1.0.1.0.1, g.1.1.1.0.1.0.1, g.1.1.1.1.0.1.0.1, g.1.1.1.1.1.0.1.0.1))

trades_long : (ts : List Trade) (us : List Val) → shadow (each (T.the_row).Denot (T.the_row).own_val ts us) → length (flat_map trade_image ts) ≡ length ts * trade_words
trades_long [] us s = refl
trades_long (t ∷ ts) [] s = absurd s
trades_long (t ∷ ts) (u ∷ us) s =
    length-append (trade_image t) (flat_map trade_image ts) ∙ omega (arith, trade_long t (u ∷ []) s.0, trades_long ts us s.1)

module _ (b : Book) (vs : List Val) (p : Is B.the_row b vs) where
  pub trades_length : length (flat_map trade_image b.values.trades) ≡ trades_words
  trades_length =
      let g = p.1.1.0.1.1 in
      trades_long b.values.trades g.0.0 g.0.1.1 ∙ omega (arith, g.0.1.0.1)

  rest_length : length (rest_image b) ≡ rest_words
  unfolding rest_image
  rest_length =
      let g = p.1.1.0.1.1 in
      let v = b.values in
      simp length-append
      (omega (arith, g.1.0.1.1.1.0.1.0.1, g.1.0.1.1.1.1.1.0.1.0.1, g.1.1.1.0.1.1.0.1.0.1))

  image_long : length (image_of b) ≡ book_words
  unfolding image_of
  image_long = length-append (flat_map trade_image b.values.trades) (rest_image b) ∙ omega (arith, trades_length, rest_length)

  -- a slice that is shorter stays as it is
  pub too_short : (ws : List ℕ) → length ws < book_words → ws ≡ pasted ws 0 (image_of b)
  too_short ws h = pasting_short ws 0 (image_of b) book_words image_long (omega arith)
