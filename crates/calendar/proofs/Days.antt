-- The quick count of days is the definition's sum. From 1990 to 2099 every fourth year is a leap year, and a leap year's months lie a day later from March on: both are computed over the whole table of years and of months.
use mathlib.Core.Path.{◌≡◌, refl}
use mathlib.Core.Bool.{true, false, cond}
use Prim.Native.Nat.{ℕ, ◌+◌, ◌-◌, ◌*◌, ◌/◌, ◌%◌, ◌≤◌, ◌<◌}
use native.Mathlib.Omega.{arith}
use lib.Dec.{eqb, ltb}
use borrow.Author.Tests.{eqb-true}
use Rattle.calendar.specs.Calendar.{first_year, last_year, months_of_year, days_of_week, month_of, day_of, year_of, leap, days_of_months, days_of_years, day_number, weekday_of, is_date}
use Rattle.lists.proofs.Below.{below}

-- from 1990 to 2099
abbrev YEARS : ℕ
YEARS = 110

days_of_years_law : (years : ℕ) → years < YEARS → days_of_years years ≡ years * 365 + (years + 1) / 4
days_of_years_law years h =
    eqb-true (days_of_years years) (years * 365 + (years + 1) / 4)
    (below (λ (k : ℕ). eqb (days_of_years k) (k * 365 + (k + 1) / 4)) YEARS refl years h)

-- a leap year's months begin a day later from March on
pub leap_months : (months : ℕ) → months < months_of_year → days_of_months true months ≡ days_of_months false months + cond (ltb 1 months) 1 0
leap_months months h =
    eqb-true (days_of_months true months) (days_of_months false months + cond (ltb 1 months) 1 0)
    (below (λ (k : ℕ). eqb (days_of_months true k) (days_of_months false k + cond (ltb 1 k) 1 0)) months_of_year refl months h)

-- what a date's three parts keep to
pub record Parts (n : ℕ) : Type 0 where
  pub year_low : first_year ≤ year_of n
  pub year_high : year_of n ≤ last_year
  pub month_low : 1 ≤ month_of n
  pub month_high : month_of n ≤ months_of_year
  pub day_low : 1 ≤ day_of n

pub parts : (n : ℕ) → is_date n ≡ true → Parts n
unfolding is_date
parts n t = record { year_low = grind arith; year_high = grind arith; month_low = grind arith; month_high = grind arith; day_low = grind arith }

-- the quick count
pub weekday_is : (n before : ℕ) → is_date n ≡ true → before ≡ days_of_months (leap (year_of n)) (month_of n - 1)
    → ((year_of n - first_year) * 365 + (year_of n - first_year + 1) / 4 + before + (day_of n - 1)) % days_of_week ≡ weekday_of n
unfolding weekday_of day_number
weekday_is n before e b =
    let p = parts n e in
    let h : year_of n - first_year < YEARS = omega arith in
    rw (b, ← days_of_years_law (year_of n - first_year) h)
