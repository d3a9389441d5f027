-- An image says all that a book holds: a book that is written is an image and is said by it; in an image a book with the same trades is written by its rest alone.
use mathlib.Core.Path.{◌≡◌, refl, sym, ap, ◌∙◌}
use mathlib.Core.List.{List, [], ◌∷◌, ◌++◌, map, append_assoc, Memᴰ}
use Rattle.std.specs.List.{flat_map}
use mathlib.Core.Bool.{Bool, true, false, cond, ◌&&◌}
use Prim.Native.Nat.{ℕ, ◌+◌, ◌*◌, ◌<◌}
use native.Mathlib.Nat.{zero-add}
use native.Mathlib.Omega.{arith}
use lib.ListN.{length, take, drop, get_or, replicate, length-append, get_or-map}
use lib.Seq.{take_at, drop_at, take_all}
use lib.Dec.{eqb, ltb}
use borrow.Author.Tests.{eq-eqb, ltb-false}
use Rattle.lists.specs.Lists.{part, pasted, tab, all}
use Rattle.lists.proofs.Pasting.{paste_whole, length_pasted, part_pasted}
use Rattle.lists.proofs.Tables.{get_d_tab, tab_same}
use Rattle.lists.proofs.Tests.{both}
use Rattle.book.specs.declared.Trade.{Trade}
use Rattle.book.specs.declared.Book.{Book}
use Rattle.image.specs.Images.{
  trades_words,
  book_words,
  trade_image,
  rest_image,
  image_of,
  row_at,
  row_in,
  count_in,
  rows_of,
  rest_of,
  trade_fits,
  lent_fits,
  line_fits,
  is_lent,
  is_image,
  trade_in,
  line_in,
  values_from,
  blank,
  trades_in,
  book_in,
}
use Rattle.image.specs.Formed.{FormedTrade, FormedTrades, FormedRest}
use Rattle.image.proofs.Cutting.{part_before}
use Rattle.image.proofs.Told.{lent_length, lent_trades, image_lent}
use Rattle.image.proofs.TradeBack.{length_trade, trade_back, trade_fits_law}
use Rattle.image.proofs.RestBack.{length_rest, count_back, rest_back, lent_fits_law, line_fits_law}

-- a row of words that stand after some others
row_at_law : (p q s : List ℕ) (k : ℕ) → length p ≡ k * 42 → length q ≡ 42 → row_at ((p ++ q) ++ s) k ≡ q
unfolding part
row_at_law p q s k a b =
    ap (λ (l : List ℕ). take 42 (drop (k * 42) l)) (append_assoc p q s) ∙ ap (take 42) (drop_at p (q ++ s) (k * 42) a) ∙ take_at q s 42 b

-- ---- from a book to words and back
module _ {A : Type 0} (f : A → List ℕ) (r : List ℕ) where
  -- the rows of joined rows, after some words, are the rows
  rows_from : (pre : List ℕ) (xs : List A) (i : ℕ) → length pre ≡ i * 42 → ((x : A) → Memᴰ x xs → length (f x) ≡ 42)
      → tab (row_at (pre ++ (flat_map f xs ++ r))) (length xs) i ≡ map f xs
  rows_from pre [] i l h = refl
  rows_from pre (x ∷ xs) i l h =
      let n : length (f x) ≡ 42 = h x (Memᴰ.head refl) in
      let more : List ℕ = flat_map f xs ++ r in
      let e : pre ++ ((f x ++ flat_map f xs) ++ r) ≡ (pre ++ f x) ++ more =
      ap (λ (l : List ℕ). pre ++ l) (append_assoc (f x) (flat_map f xs) r) ∙ sym (append_assoc pre (f x) more) in
      let m : length (pre ++ f x) ≡ (i + 1) * 42 = length-append pre (f x) ∙ omega arith in
      ap (λ (w : List ℕ). row_at w i ∷ tab (row_at w) (length xs) (i + 1)) e
      ∙ (λ j. row_at_law pre (f x) more i l n j ∷ rows_from (pre ++ f x) xs (i + 1) m (λ y k. h y (Memᴰ.tail k)) j)

  length_join : (xs : List A) → ((x : A) → Memᴰ x xs → length (f x) ≡ 42) → length (flat_map f xs) ≡ length xs * 42
  length_join [] h = refl
  length_join (x ∷ xs) h =
      length-append (f x) (flat_map f xs)
      ∙ omega (arith, h x (Memᴰ.head refl), length_join xs (λ y k. h y (Memᴰ.tail k)))

trades_back : (ts : List Trade) → ((t : Trade) → Memᴰ t ts → FormedTrade t) → map trade_in (map trade_image ts) ≡ ts
trades_back [] h = refl
trades_back (t ∷ ts) h = λ i. trade_back t (h t (Memᴰ.head refl)) i ∷ trades_back ts (λ u k. h u (Memᴰ.tail k)) i

trades_fit : (ts : List Trade) → ((t : Trade) → Memᴰ t ts → FormedTrade t) → all trade_fits (map trade_image ts) ≡ true
trades_fit [] h = refl
trades_fit (t ∷ ts) h =
    both (trade_fits (trade_image t)) (all trade_fits (map trade_image ts)) (trade_fits_law t (h t (Memᴰ.head refl))) (trades_fit ts (λ u k. h u (Memᴰ.tail k)))

-- the words of a trade of zeros
blank_words : trade_image blank ≡ replicate 42 0
unfolding trade_image
blank_words = refl

-- ---- words by their rows and by those after them
module _ (ws : List ℕ) (b : Book) (l : length ws ≡ book_words) (q : FormedRest b) (rows : map trade_in (rows_of ws) ≡ b.values.trades) (fit : all trade_fits (rows_of ws) ≡ true) (rest : rest_of ws ≡ rest_image b) where
  -- the words are an image, and say the book
  says_image : is_image ws ≡ true
  unfolding is_image is_lent
  says_image =
      both (eqb (length ws) book_words && (all trade_fits (rows_of ws) && lent_fits (rest_of ws))) (line_fits (rest_of ws))
      (both (eqb (length ws) book_words) (all trade_fits (rows_of ws) && lent_fits (rest_of ws)) (eq-eqb (length ws) book_words l)
      (both (all trade_fits (rows_of ws)) (lent_fits (rest_of ws)) fit (ap lent_fits rest ∙ lent_fits_law b q)))
      (ap line_fits rest ∙ line_fits_law b q)

  says_book : book_in ws ≡ b
  unfolding book_in trades_in
  says_book = (λ i. record { values = values_from (rows i) (rest i) (line_in (rest i)); live = get_or (rest i) 51 0 }) ∙ rest_back b q

module _ (b : Book) (h : FormedTrades b.values.trades b.values.lent.trade_count) (q : FormedRest b) where
  length_trades : length (flat_map trade_image b.values.trades) ≡ 2688
  length_trades = length_join trade_image [] b.values.trades (λ t k. length_trade t (h.each t k)) ∙ ap (λ (n : ℕ). n * 42) h.most

  rest_is : rest_of (image_of b) ≡ rest_image b
  unfolding rest_of image_of part
  rest_is =
      ap (take 52) (drop_at (flat_map trade_image b.values.trades) (rest_image b) 2688 length_trades)
      ∙ take_all 52 (rest_image b) (omega (arith, length_rest b q))

  rows_all : tab (row_at (image_of b)) 64 0 ≡ map trade_image b.values.trades
  unfolding image_of
  rows_all =
      ap (λ (n : ℕ). tab (row_at (flat_map trade_image b.values.trades ++ rest_image b)) n 0) (sym h.most)
      ∙ rows_from trade_image (rest_image b) [] b.values.trades 0 refl (λ t k. length_trade t (h.each t k))

  -- past the trades that count stand zeros already
  row_is : (i : ℕ) → i < 64 → row_in (image_of b) b.values.lent.trade_count i ≡ row_at (image_of b) i
  row_is i lt = go (ltb i b.values.lent.trade_count) refl
    where
      go : (t : Bool) → ltb i b.values.lent.trade_count ≡ t → cond t (row_at (image_of b) i) (replicate 42 0) ≡ row_at (image_of b) i
      go true e = refl
      go false e =
          sym blank_words ∙ ap trade_image (sym (h.spare i (ltb-false i b.values.lent.trade_count e))) ∙ sym (get_or-map trade_image b.values.trades i blank)
          ∙ ap (λ (rs : List (List ℕ)). get_or rs i (trade_image blank)) (sym rows_all) ∙ get_d_tab (row_at (image_of b)) 64 0 i (trade_image blank) lt ∙ ap (row_at (image_of b)) (zero-add i)

  rows_back : rows_of (image_of b) ≡ map trade_image b.values.trades
  unfolding rows_of
  rows_back =
      ap (λ (n : ℕ). tab (row_in (image_of b) n) 64 0) (ap (λ (l : List ℕ). get_or l 0 0) rest_is ∙ count_back b q)
      ∙ tab_same (row_in (image_of b) b.values.lent.trade_count) (row_at (image_of b)) 64 0 (λ i low high. row_is i (omega arith))
      ∙ rows_all

  length_image : length (image_of b) ≡ book_words
  unfolding image_of
  length_image = length-append (flat_map trade_image b.values.trades) (rest_image b) ∙ omega (arith, length_trades, length_rest b q)

  -- a book that is written whole is an image, and is said by it
  module _ (ws : List ℕ) (l : length ws ≡ book_words) where
    written_whole : pasted ws 0 (image_of b) ≡ image_of b
    written_whole = paste_whole ws (image_of b) (length_image ∙ sym l)

    rows_there : map trade_in (rows_of (image_of b)) ≡ b.values.trades
    rows_there = ap (map trade_in) rows_back ∙ trades_back b.values.trades h.each

    fit_there : all trade_fits (rows_of (image_of b)) ≡ true
    fit_there = ap (all trade_fits) rows_back ∙ trades_fit b.values.trades h.each

    pub whole_image : is_image (pasted ws 0 (image_of b)) ≡ true
    whole_image = ap is_image written_whole ∙ says_image (image_of b) b length_image q rows_there fit_there rest_is

    pub whole_book : book_in (pasted ws 0 (image_of b)) ≡ b
    whole_book = ap book_in written_whole ∙ says_book (image_of b) b length_image q rows_there fit_there rest_is

-- a book with the trades of an image, as many of which count, is written by its rest alone
module _ (ws : List ℕ) (b : Book) (e : is_image ws ≡ true) (q : FormedRest b) (same : b.values.trades ≡ trades_in ws) (count : b.values.lent.trade_count ≡ count_in ws) where
  abbrev after : List ℕ
  after = pasted ws trades_words (rest_image b)

  long : length ws ≡ book_words
  long = lent_length ws (image_lent ws e)

  rest_after : rest_of after ≡ rest_image b
  unfolding rest_of
  rest_after = part_pasted ws 2688 (rest_image b) 52 (length_rest b q) (omega (arith, long))

  row_after : (i : ℕ) → i < 64 → row_at after i ≡ row_at ws i
  row_after i lt = part_before ws 2688 (rest_image b) (i * 42) 42 (omega arith)

  rows_after_law : rows_of after ≡ rows_of ws
  unfolding rows_of
  rows_after_law =
      ap (λ (n : ℕ). tab (row_in after n) 64 0) (ap (λ (l : List ℕ). get_or l 0 0) rest_after ∙ count_back b q ∙ count)
      ∙ tab_same (row_in after (count_in ws)) (row_in ws (count_in ws)) 64 0 (λ i low high. ap (λ (r : List ℕ). cond (ltb i (count_in ws)) r (replicate 42 0)) (row_after i (omega arith)))

  rows_said : map trade_in (rows_of after) ≡ b.values.trades
  unfolding trades_in
  rows_said = ap (map trade_in) rows_after_law ∙ sym same

  rest_fit : all trade_fits (rows_of after) ≡ true
  rest_fit = ap (all trade_fits) rows_after_law ∙ lent_trades ws (image_lent ws e)

  pub rest_image_law : is_image after ≡ true
  rest_image_law = says_image after b (length_pasted ws trades_words (rest_image b) ∙ long) q rows_said rest_fit rest_after

  pub rest_book : book_in after ≡ b
  rest_book = says_book after b (length_pasted ws trades_words (rest_image b) ∙ long) q rows_said rest_fit rest_after
