-- The words after the trades say all of a book but its trades.
use Rattle.std.specs.Prelude.{None, Option, Some}
use mathlib.Core.Path.{◌≡◌, refl, sym, ap, ◌∙◌}
use mathlib.Core.List.{List, [], ◌∷◌, ◌++◌}
use mathlib.Core.Bool.{Bool, true, false, cond}
use Prim.Native.Nat.{ℕ, ◌+◌, ◌≤◌, ◌<◌}
use native.Mathlib.Omega.{arith}
use lib.ListN.{length, get_or, length-append}
use lib.Dec.{ltb}
use borrow.Author.Tests.{ltb-false}
use Rattle.lists.specs.Lists.{part, tab, all}
use Rattle.lists.proofs.Parts.{length_part}
use Rattle.lists.proofs.Tables.{tab_same, table_of_law}
use Rattle.lists.proofs.Tests.{both}
use Rattle.sequence.specs.declared.Inbound.{Inbound}
use Rattle.sequence.specs.Sequence.{inbound, outbound}
use Rattle.book.specs.declared.Book.{Book}
use Rattle.book.proofs.ListLaws.{all_both}
use Rattle.image.specs.Images.{is_byte, is_number, flag_of, last_of, rest_image, holiday_in, holidays_in, received_fits, lent_fits, line_fits, received_in, line_in, values_from}
use Rattle.image.specs.Formed.{FormedRest}
use Rattle.image.proofs.Looking.{part_table, part_at}
use Rattle.image.proofs.Cutting.{part_next, part_whole, six}

-- ---- what was received
received_back : (r : Option Inbound) → received_in (flag_of r) (last_of r) ≡ r
received_back None = refl
received_back (Some n) = refl

received_fits_law : (r : Option Inbound) → is_number (last_of r) ≡ true → received_fits (flag_of r) (last_of r) ≡ true
received_fits_law None h = refl
received_fits_law (Some n) h = h

-- ---- 52 words
module _ (rest : List ℕ) (l : length rest ≡ 52) where
  -- its parts end to end
  cut : part rest 0 1 ++ part rest 1 32 ++ part rest 33 1 ++ part rest 34 4 ++ part rest 38 4 ++ part rest 42 10 ≡ rest
  cut =
      let j1 : part rest 0 1 ++ part rest 1 32 ≡ part rest 0 33 = part_next rest 0 1 32 in
      let j2 = ap (λ (x : List ℕ). x ++ part rest 33 1) j1 ∙ part_next rest 0 33 1 in
      let j3 = ap (λ (x : List ℕ). x ++ part rest 34 4) j2 ∙ part_next rest 0 34 4 in
      let j4 = ap (λ (x : List ℕ). x ++ part rest 38 4) j3 ∙ part_next rest 0 38 4 in
      let j5 = ap (λ (x : List ℕ). x ++ part rest 42 10) j4 ∙ part_next rest 0 42 10 in
      j5 ∙ part_whole rest 52 l

  count_word : part rest 0 1 ≡ get_or rest 0 0 ∷ []
  count_word = part_table rest 0 0 1 (omega arith)

  days_word : part rest 33 1 ≡ get_or rest 33 0 ∷ []
  days_word = part_table rest 33 0 1 (omega arith)

  numbers : part rest 42 10
      ≡ get_or rest 42 0 ∷ get_or rest 43 0 ∷ get_or rest 44 0 ∷ get_or rest 45 0 ∷ get_or rest 46 0 ∷ get_or rest 47 0 ∷ get_or rest 48 0 ∷ get_or rest 49 0 ∷ get_or rest 50 0 ∷ get_or rest 51 0 ∷ []
  numbers = part_table rest 42 0 10 (omega arith)

-- ---- a book
module _ (b : Book) (h : FormedRest b) where
  pub length_rest : length (rest_image b) ≡ 52
  unfolding rest_image
  length_rest = simp length-append (omega (arith, h.holidays.0, h.subscriber.0, h.connection.0))

  as_long : (k n : ℕ) → k + n ≤ 52 → length (part (rest_image b) k n) ≡ n
  as_long k n g = length_part (rest_image b) k n (omega (arith, length_rest))

-- the parts of a book's words after the trades are its fields
pub record RestParts (b : Book) : Type 0 where
  pub count : part (rest_image b) 0 1 ≡ b.values.lent.trade_count ∷ []
  pub holidays : part (rest_image b) 1 32 ≡ b.values.lent.holidays
  pub days : part (rest_image b) 33 1 ≡ b.values.lent.holiday_count ∷ []
  pub subscriber : part (rest_image b) 34 4 ≡ b.values.lent.subscriber
  pub connection : part (rest_image b) 38 4 ≡ b.values.connection.id
  pub numbers : part (rest_image b) 42 10
      ≡ b.values.lent.limits.ceiling ∷ b.values.lent.limits.variance ∷ b.values.lent.limits.pools_a_million ∷ b.values.lent.limits.least
      ∷ b.values.last_message_id ∷ b.values.connection.outbound.0 ∷ flag_of b.values.connection.line.received ∷ last_of b.values.connection.line.received ∷ b.values.connection.line.expected.0 ∷ b.live ∷ []

module _ (b : Book) (h : FormedRest b) where
  parts : RestParts b
  unfolding rest_image
  parts =
      let r = rest_image b in
      let ns : List ℕ =
      b.values.lent.limits.ceiling ∷ b.values.lent.limits.variance ∷ b.values.lent.limits.pools_a_million ∷ b.values.lent.limits.least
      ∷ b.values.last_message_id ∷ b.values.connection.outbound.0 ∷ flag_of b.values.connection.line.received ∷ last_of b.values.connection.line.received ∷ b.values.connection.line.expected.0 ∷ b.live ∷ [] in
      let p = six (part r 0 1) (part r 1 32) (part r 33 1) (part r 34 4) (part r 38 4) (part r 42 10)
      (b.values.lent.trade_count ∷ []) b.values.lent.holidays (b.values.lent.holiday_count ∷ []) b.values.lent.subscriber b.values.connection.id ns
      (as_long b h 1 32 (omega arith) ∙ sym h.holidays.0)
      (as_long b h 33 1 (omega arith))
      (as_long b h 34 4 (omega arith) ∙ sym h.subscriber.0)
      (as_long b h 38 4 (omega arith) ∙ sym h.connection.0)
      (as_long b h 42 10 (omega arith))
      (cut r (length_rest b h)) in
      record { count = p.0; holidays = p.1; days = p.2; subscriber = p.3; connection = p.4; numbers = p.5 }

  words : get_or (rest_image b) 42 0 ∷ get_or (rest_image b) 43 0 ∷ get_or (rest_image b) 44 0 ∷ get_or (rest_image b) 45 0 ∷ get_or (rest_image b) 46 0
      ∷ get_or (rest_image b) 47 0 ∷ get_or (rest_image b) 48 0 ∷ get_or (rest_image b) 49 0 ∷ get_or (rest_image b) 50 0 ∷ get_or (rest_image b) 51 0 ∷ []
      ≡ b.values.lent.limits.ceiling ∷ b.values.lent.limits.variance ∷ b.values.lent.limits.pools_a_million ∷ b.values.lent.limits.least
      ∷ b.values.last_message_id ∷ b.values.connection.outbound.0 ∷ flag_of b.values.connection.line.received ∷ last_of b.values.connection.line.received ∷ b.values.connection.line.expected.0 ∷ b.live ∷ []
  words = sym (numbers (rest_image b) (length_rest b h)) ∙ parts.numbers

  pub count_back : get_or (rest_image b) 0 0 ≡ b.values.lent.trade_count
  count_back = ap (λ (l : List ℕ). get_or l 0 0) (sym (count_word (rest_image b) (length_rest b h)) ∙ parts.count)

  days_back : get_or (rest_image b) 33 0 ≡ b.values.lent.holiday_count
  days_back = ap (λ (l : List ℕ). get_or l 0 0) (sym (days_word (rest_image b) (length_rest b h)) ∙ parts.days)

  -- a holiday is the word at its place, and 0 past those that count
  holiday_back : (i : ℕ) → i < 32 → holiday_in (rest_image b) b.values.lent.holiday_count i ≡ get_or b.values.lent.holidays i 0
  holiday_back i lt = go (ltb i b.values.lent.holiday_count) refl
    where
      go : (t : Bool) → ltb i b.values.lent.holiday_count ≡ t → cond t (get_or (rest_image b) (1 + i) 0) 0 ≡ get_or b.values.lent.holidays i 0
      go true e = sym (part_at (rest_image b) 1 0 32 i (omega (arith, length_rest b h)) lt) ∙ ap (λ (l : List ℕ). get_or l i 0) parts.holidays
      go false e = sym (h.spare_holidays i (ltb-false i b.values.lent.holiday_count e))

  holidays_back : holidays_in (rest_image b) ≡ b.values.lent.holidays
  unfolding holidays_in
  holidays_back =
      ap (λ (n : ℕ). tab (holiday_in (rest_image b) n) 32 0) days_back
      ∙ tab_same (holiday_in (rest_image b) b.values.lent.holiday_count) (λ (i : ℕ). get_or b.values.lent.holidays i 0) 32 0 (λ i low high. holiday_back i (omega arith))
      ∙ sym (table_of_law 0 b.values.lent.holidays 32 h.holidays.0)

  pub rest_back : ◌≡◌ {A = Book} (record { values = values_from b.values.trades (rest_image b) (line_in (rest_image b)); live = get_or (rest_image b) 51 0 }) b
  unfolding values_from
  rest_back =
      let q = words in
      let r : received_in (get_or (rest_image b) 48 0) (get_or (rest_image b) 49 0) ≡ b.values.connection.line.received =
      (λ i. received_in (get_or (q i) 6 0) (get_or (q i) 7 0)) ∙ received_back b.values.connection.line.received in
      λ i.
      record {
        values =
            record {
              trades = b.values.trades;
              lent =
                  record {
                    trade_count = count_back i;
                    holidays = holidays_back i;
                    holiday_count = days_back i;
                    subscriber = parts.subscriber i;
                    limits = record { ceiling = get_or (q i) 0 0; variance = get_or (q i) 1 0; pools_a_million = get_or (q i) 2 0; least = get_or (q i) 3 0 };
                  };
              last_message_id = get_or (q i) 4 0;
              connection = record { id = parts.connection i; line = record { received = r i; expected = inbound (get_or (q i) 8 0) }; outbound = outbound (get_or (q i) 5 0) };
            };
        live = get_or (q i) 9 0;
      }

  pub lent_fits_law : lent_fits (rest_image b) ≡ true
  unfolding lent_fits
  lent_fits_law =
      let r = rest_image b in
      let q = words in
      let s = ap (all is_byte) parts.subscriber ∙ h.subscriber.1 in
      let c = ap (all is_byte) parts.connection ∙ h.connection.1 in
      let a = sym (ap (all is_byte) (part_next r 34 4 4)) ∙ all_both is_byte (part r 34 4) (part r 38 4) s c in
      let o : is_number (get_or r 47 0) ≡ true = ap (λ (l : List ℕ). is_number (get_or l 5 0)) q ∙ h.outbound in
      both (all is_number (holidays_in r)) _ (ap (all is_number) holidays_back ∙ h.holidays.1) (both (all is_byte (part r 34 8)) _ a o)

  pub line_fits_law : line_fits (rest_image b) ≡ true
  unfolding line_fits
  line_fits_law =
      let r = rest_image b in
      let q = words in
      let f : received_fits (get_or r 48 0) (get_or r 49 0) ≡ true =
      ap (λ (l : List ℕ). received_fits (get_or l 6 0) (get_or l 7 0)) q ∙ received_fits_law b.values.connection.line.received h.received in
      let x : is_number (get_or r 50 0) ≡ true = ap (λ (l : List ℕ). is_number (get_or l 8 0)) q ∙ h.expected in
      both (received_fits (get_or r 48 0) (get_or r 49 0)) _ f x
