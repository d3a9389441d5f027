-- The book that words say is made of arrays of their lengths, bytes and numbers, with zeros past the counts: the tests of words see to it, and what they do
-- not look at is not read.
use Rattle.std.specs.Prelude.{None, Option, Some}
use Prim.Native.Nat.{ℕ, ◌+◌, ◌*◌, ◌≤◌, ◌<◌}
use mathlib.Core.Path.{◌≡◌, refl, sym, ap, ◌∙◌}
use mathlib.Core.List.Memᴰ
use mathlib.Core.List.{List, map}
use mathlib.Core.Bool.{Bool, true, false, cond}
use native.Mathlib.Nat.{zero-add}
use native.Mathlib.Omega.{arith}
use lib.ListN.{length, get_or, replicate, length-map, get_or-map, get_or-eq_default}
use lib.Dec.{eqb, ltb, leb}
use borrow.Author.Tests.{eqb-true, eq-eqb, ltb-true, lt-ltb, le-ltb, ltb-false, leb-true}
use Rattle.lists.specs.Lists.{part, all}
use Rattle.lists.proofs.Parts.{length_part}
use Rattle.lists.proofs.Tables.{length_tab, get_d_tab}
use Rattle.lists.proofs.Tests.{and_left, and_right, all_out}
use Rattle.sequence.specs.declared.Inbound.{Inbound}
use Rattle.sequence.specs.Sequence.{inbound_max, outbound_max, sound_after, sound_line}
use Rattle.book.specs.declared.Trade.{Trade}
use Rattle.book.specs.declared.Book.{Book}
use Rattle.book.specs.declared.Pool.{Pool}
use Rattle.book.specs.Soundness.{Sound}
use Rattle.book.proofs.Kept.{outbound_within}
use Rattle.image.specs.Images.{trade_words, rest_words, row_at, row_in, count_in, rows_of, rest_of, holiday_in, holidays_in, is_number, last_of, trade_fits, is_lent, trade_in, blank, trades_in, values_from, values_in}
use Rattle.image.specs.Formed.{FormedTrade, FormedTrades, FormedRest}
use Rattle.image.proofs.Looking.{all_made}
use Rattle.image.proofs.Told.{id_bytes, name_bytes, rest_dates, rest_accounts, lent_length, lent_trades, lent_rest}

-- ---- the trades
-- a trade that is read from words of the right number that fit
row_formed : (row : List ℕ) → trade_fits row ≡ true → length row ≡ trade_words → FormedTrade (trade_in row)
unfolding trade_in
row_formed row e l =
    record {
      id = (length_part row 0 16 (omega arith), id_bytes row e);
      seller = (length_part row 17 4 (omega arith), name_bytes row e l 17 4 (omega arith) (omega arith));
      buyer = (length_part row 21 4 (omega arith), name_bytes row e l 21 4 (omega arith) (omega arith));
      contra = (length_part row 25 4 (omega arith), name_bytes row e l 25 4 (omega arith) (omega arith));
      cusip = (length_part row 29 9 (omega arith), name_bytes row e l 29 9 (omega arith) (omega arith));
    }

-- zeros say a trade of zeros
zeros_blank : trade_in (replicate trade_words 0) ≡ blank
unfolding trade_in part
zeros_blank = refl

module _ (ws : List ℕ) (e : is_lent ws ≡ true) where
  row_long : (i : ℕ) → i < 64 → length (row_in ws (count_in ws) i) ≡ trade_words
  row_long i lt = go (ltb i (count_in ws))
    where
      go : (b : Bool) → length (cond b (row_at ws i) (replicate trade_words 0)) ≡ trade_words
      go true = length_part ws (i * 42) 42 (omega (arith, lent_length ws e))
      go false = refl

  rows_long : all (λ (row : List ℕ). eqb (length row) trade_words) (rows_of ws) ≡ true
  unfolding rows_of
  rows_long =
      all_made (λ (row : List ℕ). eqb (length row) trade_words) (row_in ws (count_in ws)) 64 0
      (λ i low high. eq-eqb (length (row_in ws (count_in ws) i)) trade_words (row_long i (omega arith)))

  rows_count : length (rows_of ws) ≡ 64
  unfolding rows_of
  rows_count = length_tab (row_in ws (count_in ws)) 64 0

  row_spare : (i : ℕ) → count_in ws ≤ i → get_or (rows_of ws) i (replicate trade_words 0) ≡ replicate trade_words 0
  unfolding rows_of
  row_spare i h = go (ltb i 64) refl
    where
      go : (b : Bool) → ltb i 64 ≡ b → get_or (rows_of ws) i (replicate trade_words 0) ≡ replicate trade_words 0
      go true lt =
          get_d_tab (row_in ws (count_in ws)) 64 0 i (replicate trade_words 0) (ltb-true i 64 lt)
          ∙ rw (zero-add i, le-ltb i (count_in ws) h)
      go false ge = get_or-eq_default (rows_of ws) (replicate trade_words 0) {n = i} (omega (arith, rows_count, ltb-false i 64 ge))

  -- the trades that words lend
  pub lent_formed : FormedTrades (trades_in ws) (count_in ws)
  unfolding trades_in
  lent_formed =
      record {
        most = length-map (rows_of ws) trade_in ∙ rows_count;
        each = λ t m. let (row, mr, er) = Memᴰ.of_map trade_in (rows_of ws) m in
            rw (← er)
            (row_formed row (all_out trade_fits mr (lent_trades ws e)) (eqb-true (length row) trade_words (all_out (λ (row : List ℕ). eqb (length row) trade_words) mr rows_long)));
        spare = λ i h.
            ap (λ (t : Trade). get_or (map trade_in (rows_of ws)) i t) (sym zeros_blank) ∙ get_or-map trade_in (rows_of ws) i (replicate trade_words 0)
            ∙ ap trade_in (row_spare i h) ∙ zeros_blank;
      }

-- ---- the rest
-- what a sound line holds are numbers
line_numbers_law : (received : Option Inbound) (expected : Inbound) → sound_after received expected ≡ true → (is_number (last_of received) ≡ true) × (is_number expected.0 ≡ true)
line_numbers_law None expected h =
    (refl, lt-ltb expected.0 4294967296 (omega (arith, eqb-true expected.0 1 h)))
line_numbers_law (Some last) expected h =
    let low : last.0 ≤ inbound_max = leb-true last.0 inbound_max (and_left (leb last.0 inbound_max) (eqb expected.0 (last.0 + 1)) h) in
    let next : expected.0 ≡ last.0 + 1 = eqb-true expected.0 (last.0 + 1) (and_right (leb last.0 inbound_max) (eqb expected.0 (last.0 + 1)) h) in
    (lt-ltb last.0 4294967296 (omega arith), lt-ltb expected.0 4294967296 (omega arith))

module _ (ws : List ℕ) (e : is_lent ws ≡ true) where
  pub rest_long : length (rest_of ws) ≡ rest_words
  unfolding rest_of
  rest_long = length_part ws 2688 52 (omega (arith, lent_length ws e))

  holidays_count : length (holidays_in (rest_of ws)) ≡ 32
  unfolding holidays_in
  holidays_count = length_tab (holiday_in (rest_of ws) (get_or (rest_of ws) 33 0)) 32 0

  holiday_spare : (i : ℕ) → get_or (rest_of ws) 33 0 ≤ i → get_or (holidays_in (rest_of ws)) i 0 ≡ 0
  unfolding holidays_in
  holiday_spare i h = go (ltb i 32) refl
    where
      go : (b : Bool) → ltb i 32 ≡ b → get_or (holidays_in (rest_of ws)) i 0 ≡ 0
      go true lt =
          get_d_tab (holiday_in (rest_of ws) (get_or (rest_of ws) 33 0)) 32 0 i 0 (ltb-true i 32 lt)
          ∙ rw (zero-add i, le-ltb i (get_or (rest_of ws) 33 0) h)
      go false ge = get_or-eq_default (holidays_in (rest_of ws)) 0 {n = i} (omega (arith, holidays_count, ltb-false i 32 ge))

  -- a sound book that has of words what they lend
  pub rest_formed : (b : Book) (table : List Pool) → b.values.lent ≡ (values_in ws).lent → b.values.connection.id ≡ (values_in ws).connection.id → Sound b table → FormedRest b
  unfolding values_in values_from sound_line
  rest_formed b table el ec s =
      let out : b.values.connection.outbound.0 ≤ outbound_max = leb-true b.values.connection.outbound.0 outbound_max (outbound_within b.values s.values) in
      let line = line_numbers_law b.values.connection.line.received b.values.connection.line.expected s.inbound in
      record {
        holidays = rw el (holidays_count, rest_dates (rest_of ws) (lent_rest ws e));
        spare_holidays = rw el holiday_spare;
        subscriber = rw el (length_part (rest_of ws) 34 4 (omega (arith, rest_long)), rest_accounts (rest_of ws) (lent_rest ws e) rest_long 34 (omega arith) (omega arith));
        connection = rw ec (length_part (rest_of ws) 38 4 (omega (arith, rest_long)), rest_accounts (rest_of ws) (lent_rest ws e) rest_long 38 (omega arith) (omega arith));
        outbound = lt-ltb b.values.connection.outbound.0 4294967296 (omega arith);
        received = line.0;
        expected = line.1;
      }
