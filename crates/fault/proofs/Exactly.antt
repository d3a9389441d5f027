-- A rule is named exactly where 41 refuses an opening, and exactly where 42 refuses a book.
use mathlib.Core.Path.{◌≡◌, refl, ◌∙◌}
use mathlib.Core.List.{List, [], ◌∷◌}
use mathlib.Core.Bool.{Bool, true, false, not, ◌&&◌, ◌||◌}
use Prim.Native.Nat.{ℕ, ◌+◌}
use Rattle.std.specs.Prelude.{Option, Some, None}
use lib.ListN.{length, drop}
use lib.Dec.{leb}
use Rattle.lists.specs.Lists.{same, any, all}
use Rattle.calendar.specs.Calendar.{is_date}
use Rattle.sequence.specs.Sequence.{sound_line}
use Rattle.book.specs.declared.Trade.{Trade}
use Rattle.book.specs.declared.Limits.{Limits}
use Rattle.book.specs.declared.Values.{Values}
use Rattle.book.specs.declared.Book.{Book}
use Rattle.book.specs.declared.Pool.{Pool}
use Rattle.book.specs.Opening.{holidays_of, records_max, limits_fine, trade_fine, names_repeat, values_fine, opening_fine}
use Rattle.book.specs.Soundness.{live_of, record_fine, follows, in_order, fields_once, is_none, pars_from}
use Rattle.book.specs.Soundness as soundness
use Rattle.fault.specs.declared.Fault.{Fault}
use Rattle.fault.specs.Rules.{is_sound, test, or_else, each}
use Rattle.fault.specs.Faults.{limits_fault, trade_fault, names_fault, date_fault, values_fault, opening_fault, record_fault, follows_fault, order_fault, once_fault, zeros_fault, par_fault, table_fault, book_fault}

-- ---- rules in general: nothing is broken where every test passes
and_assoc : (a b c : Bool) → ((a && b) && c) ≡ (a && (b && c))
and_assoc true b c = refl
and_assoc false b c = refl

not_or : (a b : Bool) → not (a || b) ≡ (not a && not b)
not_or true b = refl
not_or false b = refl

-- a rule is broken exactly where its test fails
pub tested : (n i : ℕ) (b : Bool) → is_sound (test n i b) ≡ b
unfolding test
tested n i true = refl
tested n i false = refl

pub in_order_law : (f g : Option Fault) → is_sound (or_else f g) ≡ (is_sound f && is_sound g)
in_order_law None g = refl
in_order_law (Some x) g = refl

module _ {A : Type 0} (f : ℕ → A → Option Fault) (p : A → Bool) (is : (i : ℕ) (x : A) → is_sound (f i x) ≡ p x) where
  every : (i : ℕ) (xs : List A) → is_sound (each f i xs) ≡ all p xs
  every i [] = refl
  every i (x ∷ xs) = in_order_law (f i x) (each f (i + 1) xs) ∙ rw (is i x, every (i + 1) xs)

-- ---- 41
limits_fine_law : (l : Limits) → is_sound (limits_fault l) ≡ limits_fine l
unfolding limits_fault
limits_fine_law l = simp (in_order_law, tested, and_assoc)

trade_fine_law : (holidays : List ℕ) (i : ℕ) (t : Trade) → is_sound (trade_fault holidays i t) ≡ trade_fine holidays t
unfolding trade_fault
trade_fine_law holidays i t = simp (in_order_law, tested, and_assoc)

names_fine : (i : ℕ) (ns : List (List ℕ)) → is_sound (names_fault i ns) ≡ not (names_repeat ns)
names_fine i [] = refl
names_fine i (n ∷ ns) = in_order_law (test 130 i (not (any (same n) ns))) (names_fault (i + 1) ns) ∙ rw (tested 130 i (not (any (same n) ns)), names_fine (i + 1) ns, not_or (any (same n) ns) (names_repeat ns))

date_fine : (i day : ℕ) → is_sound (date_fault i day) ≡ is_date day
date_fine i day = tested 104 i (is_date day)

values_fine_law : (v : Values) → is_sound (values_fault v) ≡ values_fine v
unfolding values_fault values_fine
values_fine_law v =
    simp (
      in_order_law,
      tested,
      every date_fault is_date date_fine,
      limits_fine_law,
      every (trade_fault (holidays_of v)) (trade_fine (holidays_of v)) (trade_fine_law (holidays_of v)),
      names_fine,
      and_assoc,
    )

-- 41 is the answer exactly where a rule is named
pub opening_exact : (v : Values) (table : List Pool) → is_sound (opening_fault v (length table)) ≡ opening_fine v table
unfolding opening_fault opening_fine
opening_exact v table = simp (in_order_law, values_fine_law, tested)

-- ---- 42
record_fine_law : (v : Values) (i : ℕ) (r : Pool) → is_sound (record_fault v i r) ≡ record_fine v r
unfolding record_fault
record_fine_law v i r = simp (in_order_law, tested, and_assoc)

follows_fine : (i : ℕ) (q r : Pool) → is_sound (follows_fault i q r) ≡ follows q r
unfolding follows_fault
follows_fine i q r = simp (in_order_law, tested, and_assoc)

order_fine : (i : ℕ) (rs : List Pool) → is_sound (order_fault i rs) ≡ in_order rs
order_fine i [] = refl
order_fine i (q ∷ []) = refl
order_fine i (q ∷ r ∷ rs) = in_order_law (follows_fault (i + 1) q r) (order_fault (i + 1) (r ∷ rs)) ∙ rw (follows_fine (i + 1) q r, order_fine (i + 1) (r ∷ rs))

once_fine : (i : ℕ) (rs : List Pool) → is_sound (once_fault i rs) ≡ fields_once rs
once_fine i [] = refl
once_fine i (r ∷ rs) = simp (in_order_law, tested, once_fine (i + 1) rs)

zeros_fine : (i : ℕ) (r : Pool) → is_sound (zeros_fault i r) ≡ is_none r
zeros_fine i r = tested 160 i (is_none r)

pars_fine : (rs : List Pool) (i : ℕ) (ts : List Trade) → is_sound (each (par_fault rs) i ts) ≡ pars_from i ts rs
pars_fine rs i [] = refl
pars_fine rs i (t ∷ ts) = simp (in_order_law, tested, pars_fine rs (i + 1) ts)

-- the rules before those on open pars hold exactly where their tests pass
pub table_exact : (b : Book) (table : List Pool) → is_sound (table_fault b table)
    ≡ (values_fine b.values
    && (leb (length table) records_max
    && (sound_line b.values.connection.line
    && (leb b.live (length table)
    && (all (record_fine b.values) (live_of b table) && (in_order (live_of b table) && (fields_once (live_of b table) && all is_none (drop b.live table))))))))
unfolding table_fault opening_fault
table_exact b table =
    simp (
      in_order_law,
      values_fine_law,
      tested,
      every (record_fault b.values) (record_fine b.values) (record_fine_law b.values),
      order_fine,
      once_fine,
      every zeros_fault is_none zeros_fine,
      and_assoc,
    )

-- 42 is the answer exactly where a rule is named
pub book_exact : (b : Book) (table : List Pool) → is_sound (book_fault b table) ≡ soundness.is_sound b table
unfolding book_fault soundness.is_sound
book_exact b table = simp (in_order_law, table_exact, pars_fine, and_assoc)
