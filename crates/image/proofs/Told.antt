-- What the tests of an image tell of its words, one by one.
use mathlib.Core.Path.{◌≡◌}
use mathlib.Core.List.{List}
use mathlib.Core.Bool.{true, ◌&&◌}
use Prim.Native.Nat.{ℕ, ◌+◌, ◌≤◌}
use native.Mathlib.Omega.{arith}
use lib.ListN.{length, get_or}
use lib.Dec.{eqb}
use borrow.Author.Tests.{eqb-true}
use Rattle.lists.specs.Lists.{part, all}
use Rattle.lists.proofs.Tests.{and_left, and_right}
use Rattle.image.specs.Images.{
  trade_words,
  rest_words,
  book_words,
  rows_of,
  rest_of,
  is_byte,
  is_number,
  trade_fits,
  holidays_in,
  received_fits,
  lent_fits,
  line_fits,
  is_lent,
  is_image,
}
use Rattle.image.proofs.Looking.{all_within}

-- the words of a trade
module _ (row : List ℕ) (e : trade_fits row ≡ true) where
  pub id_bytes : all is_byte (part row 0 16) ≡ true
  unfolding trade_fits
  id_bytes = and_left (all is_byte (part row 0 16)) (all is_byte (part row 17 21)) e

  pub name_bytes : length row ≡ trade_words → (k n : ℕ) → 17 ≤ k → k + n ≤ 38 → all is_byte (part row k n) ≡ true
  unfolding trade_fits
  name_bytes l k n a b = all_within is_byte row 0 17 21 k n (and_right (all is_byte (part row 0 16)) (all is_byte (part row 17 21)) e) (omega arith) a b

-- what opening takes of the words after the trades
module _ (rest : List ℕ) (e : lent_fits rest ≡ true) where
  pub rest_dates : all is_number (holidays_in rest) ≡ true
  unfolding lent_fits
  rest_dates = and_left (all is_number (holidays_in rest)) _ e

  after_dates : (all is_byte (part rest 34 8) && is_number (get_or rest 47 0)) ≡ true
  unfolding lent_fits
  after_dates = and_right (all is_number (holidays_in rest)) _ e

  pub rest_accounts : length rest ≡ rest_words → (k : ℕ) → 34 ≤ k → k + 4 ≤ 42 → all is_byte (part rest k 4) ≡ true
  rest_accounts l k a b = all_within is_byte rest 0 34 8 k 4 (and_left (all is_byte (part rest 34 8)) _ after_dates) (omega arith) a b

  pub rest_outbound : is_number (get_or rest 47 0) ≡ true
  rest_outbound = and_right (all is_byte (part rest 34 8)) _ after_dates

-- what opening sets itself
module _ (rest : List ℕ) (e : line_fits rest ≡ true) where
  pub rest_received : received_fits (get_or rest 48 0) (get_or rest 49 0) ≡ true
  unfolding line_fits
  rest_received = and_left (received_fits (get_or rest 48 0) (get_or rest 49 0)) _ e

  pub rest_expected : is_number (get_or rest 50 0) ≡ true
  unfolding line_fits
  rest_expected = and_right (received_fits (get_or rest 48 0) (get_or rest 49 0)) _ e

-- all words
module _ (ws : List ℕ) (e : is_lent ws ≡ true) where
  pub lent_length : length ws ≡ book_words
  unfolding is_lent
  lent_length = eqb-true (length ws) book_words (and_left (eqb (length ws) book_words) _ e)

  after_length : (all trade_fits (rows_of ws) && lent_fits (rest_of ws)) ≡ true
  unfolding is_lent
  after_length = and_right (eqb (length ws) book_words) _ e

  pub lent_trades : all trade_fits (rows_of ws) ≡ true
  lent_trades = and_left (all trade_fits (rows_of ws)) _ after_length

  pub lent_rest : lent_fits (rest_of ws) ≡ true
  lent_rest = and_right (all trade_fits (rows_of ws)) _ after_length

module _ (ws : List ℕ) (e : is_image ws ≡ true) where
  pub image_lent : is_lent ws ≡ true
  unfolding is_image
  image_lent = and_left (is_lent ws) _ e

  pub image_line : line_fits (rest_of ws) ≡ true
  unfolding is_image
  image_line = and_right (is_lent ws) _ e
