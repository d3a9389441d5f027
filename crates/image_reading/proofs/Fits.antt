-- Words that fit, one field after another: accounts and CUSIP are bytes, and numbers are below 2^32.
use mathlib.Core.Path.{◌≡◌}
use mathlib.Core.Bool.{true}
use mathlib.Core.List.{List}
use Prim.Native.Nat.{ℕ, ◌<◌}
use native.Mathlib.Omega.{arith}
use lib.ListN.{length, get_or}
use borrow.Author.Tests.{ltb-true}
use Rattle.lists.specs.Lists.{part, all}
use Rattle.image.specs.Images.{trade_words, rest_words, is_byte, trade_fits, lent_fits, line_fits}
use Rattle.image.proofs.Told.{name_bytes, rest_accounts, rest_outbound, rest_expected}

module _ (row : List ℕ) (e : trade_fits row ≡ true) (l : length row ≡ trade_words) where
  pub seller_bytes : all is_byte (part row 17 4) ≡ true
  seller_bytes = name_bytes row e l 17 4 (omega arith) (omega arith)

  pub buyer_bytes : all is_byte (part row 21 4) ≡ true
  buyer_bytes = name_bytes row e l 21 4 (omega arith) (omega arith)

  pub contra_bytes : all is_byte (part row 25 4) ≡ true
  contra_bytes = name_bytes row e l 25 4 (omega arith) (omega arith)

  pub cusip_bytes : all is_byte (part row 29 9) ≡ true
  cusip_bytes = name_bytes row e l 29 9 (omega arith) (omega arith)

module _ (rest : List ℕ) (e : lent_fits rest ≡ true) where
  pub subscriber_bytes : length rest ≡ rest_words → all is_byte (part rest 34 4) ≡ true
  subscriber_bytes l = rest_accounts rest e l 34 (omega arith) (omega arith)

  pub connection_bytes : length rest ≡ rest_words → all is_byte (part rest 38 4) ≡ true
  connection_bytes l = rest_accounts rest e l 38 (omega arith) (omega arith)

  pub outbound_fits : get_or rest 47 0 < 4294967296
  outbound_fits = ltb-true (get_or rest 47 0) 4294967296 (rest_outbound rest e)

pub expected_fits : (rest : List ℕ) → line_fits rest ≡ true → get_or rest 50 0 < 4294967296
expected_fits rest e = ltb-true (get_or rest 50 0) 4294967296 (rest_expected rest e)
