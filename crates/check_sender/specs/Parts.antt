-- The checks of the line and the sender's system (01, 43 and 44, then 10 to 25) in the four parts that are tried one after another.
use Rattle.std.specs.Prelude.{List, take, drop}
use Rattle.book.specs.Checks.{Check, sender_checks}

-- 43, 44 and 10 to 12
abbrev pub line_checks : List Check
line_checks = take 5 sender_checks

-- 13 to 19
abbrev pub common_checks : List Check
common_checks = take 7 (drop 5 sender_checks)

-- 20 to 23, of a CC
abbrev pub cc_checks : List Check
cc_checks = take 4 (drop 12 sender_checks)

-- 24 and 25, of a DK
abbrev pub dk_checks : List Check
dk_checks = drop 16 sender_checks
