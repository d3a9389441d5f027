-- A field that is a number is that of its value.
use Rattle.std.proofs.Common.{◌≡◌, refl, ℕ, true, Option, Some, None, is_some, unwrap_or}
use Rattle.std.proofs.lemmas.Bool.{false≢true}

pub number_is_law : (f : Option ℕ) → is_some f ≡ true → f ≡ Some (unwrap_or f 0)
number_is_law (Some n) e = refl
number_is_law None e = absurd (false≢true e)
