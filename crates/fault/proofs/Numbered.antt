-- The number of a rule that is named is not 0, so that the number alone tells whether one is.
use Rattle.std.proofs.Common.{◌≡◌, ℕ, ◌+◌, Bool, true, false, cond, not, eqb, List, [], ◌∷◌, Option, Some, None, refl, ◌∙◌}
use borrow.Author.Tests.{not-true}
use Rattle.lists.specs.Lists.{same, any}
use Rattle.book.specs.declared.Trade.{Trade}
use Rattle.book.specs.declared.Limits.{Limits}
use Rattle.book.specs.declared.Values.{Values}
use Rattle.book.specs.declared.Book.{Book}
use Rattle.book.specs.declared.Pool.{Pool}
use Rattle.book.specs.Opening.{holidays_of}
use Rattle.book.specs.Soundness.{live_of}
use Rattle.fault.specs.declared.Fault.{Fault}
use Rattle.fault.specs.Rules.{is_sound, test, or_else, first_of}
use Rattle.fault.specs.Faults.{limits_fault, trade_fault, date_fault, values_fault, opening_fault, record_fault, follows_fault, next_fault, twins, zeros_fault, par_fault, table_fault, book_fault}

-- the number, 0 where no rule is named
abbrev pub rule_of : Option Fault → ℕ
rule_of None = 0
rule_of (Some f) = f.rule

-- what is named has a number
abbrev pub numbered : Option Fault → Bool
numbered None = true
numbered (Some f) = not (eqb f.rule 0)

-- so the number is 0 exactly where nothing is named
pub by_number : (f : Option Fault) → numbered f ≡ true → eqb (rule_of f) 0 ≡ is_sound f
by_number None e = refl
by_number (Some f) e = not-true (eqb f.rule 0) e

-- ---- rules in general
pub test_numbered : (n i : ℕ) (b : Bool) → numbered (test n i b) ≡ cond b true (not (eqb n 0))
unfolding test
test_numbered n i true = refl
test_numbered n i false = refl

pub or_numbered : (f g : Option Fault) → numbered (or_else f g) ≡ cond (is_sound f) (numbered g) (numbered f)
or_numbered None g = refl
or_numbered (Some x) g = refl

pub cond_same : (b : Bool) → cond b true true ≡ true
cond_same true = refl
cond_same false = refl

of_each : {A : Type 0} (f : ℕ → A → List A → Option Fault) → ((i : ℕ) (x : A) (xs : List A) → numbered (f i x xs) ≡ true) → (i : ℕ) (xs : List A) → numbered (first_of f i xs) ≡ true
of_each f each i [] = refl
of_each f each i (x ∷ xs) = or_numbered (f i x xs) (first_of f (i + 1) xs) ∙ rw (each i x xs, of_each f each (i + 1) xs) (cond_same (is_sound (f i x xs)))

-- ---- 41
limits_numbered : (l : Limits) → numbered (limits_fault l) ≡ true
unfolding limits_fault
limits_numbered l = simp (or_numbered, test_numbered, cond_same)

trade_numbered : (holidays : List ℕ) (i : ℕ) (t : Trade) → numbered (trade_fault holidays i t) ≡ true
unfolding trade_fault
trade_numbered holidays i t = simp (or_numbered, test_numbered, cond_same)

values_numbered : (v : Values) → numbered (values_fault v) ≡ true
unfolding values_fault
values_numbered v =
    simp (
      or_numbered,
      test_numbered,
      cond_same,
      of_each (λ i x xs. date_fault i x) (λ i x xs. simp (test_numbered, cond_same)),
      limits_numbered,
      of_each (λ i x xs. trade_fault (holidays_of v) i x) (λ i x xs. trade_numbered (holidays_of v) i x),
      of_each (λ i n ns. test 130 i (not (any (same n) ns))) (λ i n ns. simp (test_numbered, cond_same)),
    )

pub opening_numbered : (v : Values) (records : ℕ) → numbered (opening_fault v records) ≡ true
unfolding opening_fault
opening_numbered v records = simp (or_numbered, test_numbered, cond_same, values_numbered)

-- ---- 42
record_numbered : (v : Values) (i : ℕ) (r : Pool) → numbered (record_fault v i r) ≡ true
unfolding record_fault
record_numbered v i r = simp (or_numbered, test_numbered, cond_same)

next_numbered : (i : ℕ) (q : Pool) (rs : List Pool) → numbered (next_fault i q rs) ≡ true
unfolding follows_fault
next_numbered i q [] = refl
next_numbered i q (r ∷ rs) = simp (or_numbered, test_numbered, cond_same)

pub table_numbered : (b : Book) (table : List Pool) → numbered (table_fault b table) ≡ true
unfolding table_fault
table_numbered b table =
    simp (
      or_numbered,
      test_numbered,
      cond_same,
      opening_numbered,
      of_each (λ i x xs. record_fault b.values i x) (λ i x xs. record_numbered b.values i x),
      of_each next_fault next_numbered,
      of_each (λ i r rs. test 159 i (not (any (twins r) rs))) (λ i r rs. simp (test_numbered, cond_same)),
      of_each (λ i x xs. zeros_fault i x) (λ i x xs. simp (test_numbered, cond_same)),
    )

pub book_numbered : (b : Book) (table : List Pool) → numbered (book_fault b table) ≡ true
unfolding book_fault
book_numbered b table =
    simp (or_numbered, test_numbered, cond_same, table_numbered, of_each (λ i x xs. par_fault (live_of b table) i x) (λ i x xs. simp (test_numbered, cond_same)))
