-- Fixed columns of bytes (01, "Text is ASCII, blank is hex 20, numbers are decimal digits"): read and compared, at any place and width.
use Rattle.std.specs.Prelude.{ℕ, Option, Some, None, unwrap_or, is_some, ◌+◌, ◌-◌, ◌*◌, List, [], ◌∷◌, Bool, cond, ◌&&◌, leb}
use Rattle.lists.specs.Lists.{within, part, between, all, same}

-- the widest field of digits that a number of 64 bits always holds
abbrev pub digits_max : ℕ
digits_max = 19

-- the codes of 0 and 9
abbrev pub digit_zero : ℕ
digit_zero = 48

abbrev pub digit_nine : ℕ
digit_nine = 57

-- blank is hex 20
abbrev pub blank : ℕ
blank = 32

-- the first and the last code of a visible character
abbrev pub visible_first : ℕ
visible_first = 33

abbrev pub visible_last : ℕ
visible_last = 126

abbrev pub is_digit : ℕ → Bool
is_digit = between digit_zero digit_nine

-- the number whose leading digits are n and whose other digits are the list
abbrev pub number_from : ℕ → List ℕ → Option ℕ
number_from n [] = Some n
number_from n (b ∷ bs) = cond (is_digit b) (number_from (n * 10 + (b - digit_zero)) bs) None

-- the number in the width bytes from at; a place outside the list, or another byte than a digit, is not digits
unfoldable pub read_number : List ℕ → ℕ → ℕ → Option ℕ
read_number s at width = cond (leb width digits_max && within s at width) (number_from 0 (part s at width)) None

-- ---- what the rules ask of a field: whether it is a number that passes a test
abbrev pub holds : (ℕ → Bool) → Option ℕ → Bool
holds p f = is_some f && p (unwrap_or f 0)

-- ---- codes, and parts compared
-- whether the n bytes from at stand in the list and have codes from low to high
unfoldable pub all_between : ℕ → ℕ → List ℕ → ℕ → ℕ → Bool
all_between low high s at n = within s at n && all (between low high) (part s at n)

-- all blank
abbrev pub all_blank : List ℕ → ℕ → ℕ → Bool
all_blank = all_between blank blank

-- all of codes 33 to 126
abbrev pub all_visible : List ℕ → ℕ → ℕ → Bool
all_visible = all_between visible_first visible_last

-- whether the n bytes of a from i and those of b from j stand there and are equal
unfoldable pub same_part : List ℕ → ℕ → List ℕ → ℕ → ℕ → Bool
same_part a i b j n = (within a i n && within b j n) && same (part a i n) (part b j n)
