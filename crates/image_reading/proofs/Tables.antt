-- Of a table of trades or holidays only those count that a word tells: tests of them, each of them, and all of them.
use mathlib.Core.Path.{◌≡◌, refl, sym, ap, ◌∙◌}
use mathlib.Core.Bool.{Bool, true, false, cond}
use mathlib.Core.List.{List}
use Prim.Native.Nat.{ℕ, zero, suc, min, ◌+◌, ◌≤◌, ◌<◌}
use native.Mathlib.Omega.{arith}
use lib.ListN.{length, get_or, replicate}
use lib.Dec.{ltb}
use borrow.Author.Tests.{ltb-true, lt-ltb, le-ltb}
use Rattle.std.specs.List.{range_with_len}
use Rattle.lists.specs.Lists.{part, tab, all}
use Rattle.lists.proofs.Tables.{table_of_law, tab_same, map_tab}
use Rattle.book.specs.declared.Trade.{Trade}
use Rattle.image.specs.Images.{rest_words, row_at, row_in, count_in, rows_of, holiday_in, holidays_in, is_number, trade_fits, is_lent, trade_in, blank, trades_in}
use Rattle.image.proofs.Looking.{all_at, part_table}
use Rattle.image.proofs.Told.{lent_trades}

-- ---- any table
module _ {A : Type 0} (g : ℕ → A) (z : A) (count : ℕ) where
  abbrev counting : ℕ → A
  counting j = cond (ltb j count) (g j) z

  -- a test that z passes is one of those that count
  tests : (p : A → Bool) → p z ≡ true → (m k i : ℕ) → k ≤ m → (0 < k → i + k ≤ count) → (k < m → count ≤ i + k)
      → all (λ (j : ℕ). p (g j)) (range_with_len i k) ≡ all p (tab counting m i)
  tests p e zero zero i a b c = refl
  tests p e zero (suc k) i a b c = absurd (omega arith)
  tests p e (suc m) zero i a b c =
      let f : ltb i count ≡ false = le-ltb i count (omega (arith, c (omega arith))) in
      let r : all p (tab counting m (i + 1)) ≡ true = sym (tests p e m zero (i + 1) (omega arith) (λ h. absurd (omega arith)) (λ h. omega (arith, c (omega arith)))) in
      rw (f, e, r)
  tests p e (suc m) (suc k) i a b c =
      let t : ltb i count ≡ true = lt-ltb i count (omega (arith, b (omega arith))) in
      let r = tests p e m k (i + 1) (omega arith) (λ h. omega (arith, b (omega arith))) (λ h. omega (arith, c (omega arith))) in
      rw (t, r)

  pub counted_tests : (p : A → Bool) → p z ≡ true → (most : ℕ) → all (λ (j : ℕ). p (g j)) (range_with_len 0 (min count most)) ≡ all p (tab counting most 0)
  counted_tests p e most = tests p e most (min count most) 0 (omega arith) (λ h. omega arith) (λ h. omega arith)

all_range : {A : Type 0} (p : A → Bool) (g : ℕ → A) (n i : ℕ) → all p (tab g n i) ≡ all (λ (j : ℕ). p (g j)) (range_with_len i n)
all_range p g zero i = refl
all_range p g (suc n) i = rw (all_range p g n (i + 1))

-- a list by its elements
made : {A : Type 0} (d : A) (xs : List A) (f : ℕ → A) (n : ℕ) → length xs ≡ n → ((k : ℕ) → k < n → get_or xs k d ≡ f k) → xs ≡ tab f n 0
made d xs f n l h = table_of_law d xs n l ∙ tab_same (λ (i : ℕ). get_or xs i d) f n 0 (λ k a b. h k (omega arith))

-- ---- the trades
-- a row of zeros is that of a trade of zeros
zeros_fit : trade_fits (replicate 42 0) ≡ true
unfolding trade_fits part
zeros_fit = refl

zeros_blank : trade_in (replicate 42 0) ≡ blank
unfolding trade_in part
zeros_blank = refl

module _ (ws : List ℕ) where
  pub rows_counted : all (λ (i : ℕ). trade_fits (row_at ws i)) (range_with_len 0 (min (count_in ws) 64)) ≡ all trade_fits (rows_of ws)
  unfolding rows_of
  rows_counted = counted_tests (row_at ws) (replicate 42 0) (count_in ws) trade_fits zeros_fit 64

  module _ (i : ℕ) where
    pub row_counts : i < count_in ws → row_in ws (count_in ws) i ≡ row_at ws i
    row_counts h = rw (lt-ltb i (count_in ws) h)

    pub row_blank : count_in ws ≤ i → trade_in (row_in ws (count_in ws) i) ≡ blank
    row_blank h = rw (le-ltb i (count_in ws) h) zeros_blank

    pub row_fits : is_lent ws ≡ true → i < 64 → i < count_in ws → trade_fits (row_at ws i) ≡ true
    unfolding rows_of
    row_fits e l h = ap trade_fits (sym (row_counts h)) ∙ all_at trade_fits (row_in ws (count_in ws)) 64 0 i (lent_trades ws e) (omega arith) (omega arith)

  pub trades_made : (ts : List Trade) → length ts ≡ 64 → ((k : ℕ) → k < 64 → get_or ts k blank ≡ trade_in (row_in ws (count_in ws) k)) → ts ≡ trades_in ws
  unfolding trades_in rows_of
  trades_made ts l h = made blank ts (λ (k : ℕ). trade_in (row_in ws (count_in ws) k)) 64 l h ∙ sym (map_tab trade_in (row_in ws (count_in ws)) 64 0)

-- ---- the holidays
module _ (rest : List ℕ) where
  abbrev day : ℕ → ℕ
  day i = holiday_in rest (get_or rest 33 0) i

  pub holidays_counted : length rest ≡ rest_words → all is_number (part rest 1 (min (get_or rest 33 0) 32)) ≡ all is_number (holidays_in rest)
  unfolding holidays_in
  holidays_counted l =
      let word : ℕ → ℕ = λ (i : ℕ). get_or rest (1 + i) 0 in
      ap (all is_number) (part_table rest 1 0 (min (get_or rest 33 0) 32) (omega arith)) ∙ all_range is_number word (min (get_or rest 33 0) 32) 0
      ∙ counted_tests word 0 (get_or rest 33 0) is_number refl 32

  module _ (i : ℕ) where
    pub holiday_counts : i < get_or rest 33 0 → get_or rest (1 + i) 0 ≡ day i
    holiday_counts h = rw (lt-ltb i (get_or rest 33 0) h)

    pub holiday_none : get_or rest 33 0 ≤ i → 0 ≡ day i
    holiday_none h = rw (le-ltb i (get_or rest 33 0) h)

    pub holiday_number : all is_number (holidays_in rest) ≡ true → i < 32 → i < get_or rest 33 0 → get_or rest (1 + i) 0 < 4294967296
    unfolding holidays_in
    holiday_number e l h = ltb-true (get_or rest (1 + i) 0) 4294967296 (ap is_number (holiday_counts h) ∙ all_at is_number day 32 0 i e (omega arith) (omega arith))

  pub holidays_made : (ds : List ℕ) → length ds ≡ 32 → ((k : ℕ) → k < 32 → get_or ds k 0 ≡ day k) → ds ≡ holidays_in rest
  unfolding holidays_in
  holidays_made ds l h = made 0 ds day 32 l h
