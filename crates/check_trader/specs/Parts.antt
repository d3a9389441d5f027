-- The checks of terms (01, 30 to 36) in the two parts that are tried one after another.
use Rattle.std.specs.Prelude.{List, take, drop}
use Rattle.book.specs.Checks.{Check, terms_checks}

-- 30 to 32, of the target and the trade
abbrev pub target_checks : List Check
target_checks = take 3 terms_checks

-- 33 to 36, of the new pools
abbrev pub new_checks : List Check
new_checks = drop 3 terms_checks
