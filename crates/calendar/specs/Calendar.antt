-- Dates and business dates (01, The book). A date is a number that reads mmddyyyy.
use Rattle.std.specs.Prelude.{ℕ, zero, suc, ◌+◌, ◌-◌, ◌/◌, ◌%◌, List, Bool, cond, not, ◌&&◌, ◌||◌, eqb, leb, ltb}
use Rattle.lists.specs.Lists.{any}

-- dates run from this year
abbrev pub first_year : ℕ
first_year = 1990

-- up to the end of this one
abbrev pub last_year : ℕ
last_year = 2099

-- the months of a year
abbrev pub months_of_year : ℕ
months_of_year = 12

-- the days of a week
abbrev pub days_of_week : ℕ
days_of_week = 7

-- Monday to Friday
abbrev pub workdays : ℕ
workdays = 5

-- the first two of eight digits
abbrev pub month_of : ℕ → ℕ
month_of n = n / 1000000

-- the next two
abbrev pub day_of : ℕ → ℕ
day_of n = n / 10000 % 100

-- the last four
abbrev pub year_of : ℕ → ℕ
year_of n = n % 10000

-- the Gregorian rule: every fourth year, but of the full centuries only every fourth
abbrev pub leap : ℕ → Bool
leap year = eqb (year % 4) 0 && (not (eqb (year % 100) 0) || eqb (year % 400) 0)

-- the days of a year
abbrev pub days_of_year : ℕ → ℕ
days_of_year year = cond (leap year) 366 365

-- the days of a month, in a leap year or not: April, June, September and November have 30
abbrev pub days_of_month : Bool → ℕ → ℕ
days_of_month is_leap month =
    cond (eqb month 2) (cond is_leap 29 28) (cond (eqb month 4 || (eqb month 6 || (eqb month 9 || eqb month 11))) 30 31)

-- the days of so many years, from 1990 on
abbrev pub days_of_years : ℕ → ℕ
days_of_years zero = 0
days_of_years (suc years) = days_of_years years + days_of_year (first_year + years)

-- the days of so many months, from January on
abbrev pub days_of_months : Bool → ℕ → ℕ
days_of_months is_leap zero = 0
days_of_months is_leap (suc months) = days_of_months is_leap months + days_of_month is_leap (suc months)

-- the days from Monday 1 January 1990 to a date
unfoldable pub day_number : ℕ → ℕ → ℕ → ℕ
day_number year month day = days_of_years (year - first_year) + days_of_months (leap year) (month - 1) + (day - 1)

-- the day of the week: 0 is Monday, 4 Friday
unfoldable pub weekday_of : ℕ → ℕ
weekday_of n = day_number (year_of n) (month_of n) (day_of n) % days_of_week

-- a Gregorian date from 1990 to 2099
unfoldable pub is_date : ℕ → Bool
is_date n =
    leb first_year (year_of n) && leb (year_of n) last_year
    && leb 1 (month_of n) && leb (month_of n) months_of_year
    && leb 1 (day_of n) && leb (day_of n) (days_of_month (leap (year_of n)) (month_of n))

-- a date, Monday to Friday, that is not a listed holiday
unfoldable pub business_date : ℕ → List ℕ → Bool
business_date n holidays = is_date n && ltb (weekday_of n) workdays && not (any (eqb n) holidays)
