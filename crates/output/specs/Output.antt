-- Columns as they are written (01, "numbers are decimal digits", "blank is hex 20"): digits, blanks, and parts of other lists.
use Rattle.std.specs.Prelude.{ℕ, zero, suc, ◌+◌, ◌/◌, ◌%◌, List, [], ◌∷◌, ◌++◌, cond, replicate}
use Rattle.lists.specs.Lists.{within, part, pasted}
use Rattle.fields.specs.Fields.{digit_zero, blank}

-- the last width decimal digits of v
abbrev pub digits_of : ℕ → ℕ → List ℕ
digits_of zero v = []
digits_of (suc w) v = digits_of w (v / 10) ++ ((digit_zero + v % 10) ∷ [])

-- n blanks
abbrev pub blanks : ℕ → List ℕ
blanks n = replicate n blank

-- the list with the n elements of s from at pasted in from to on, or the list itself where s does not have them
unfoldable pub with_part : List ℕ → ℕ → List ℕ → ℕ → ℕ → List ℕ
with_part out to s at n = cond (within s at n) (pasted out to (part s at n)) out
