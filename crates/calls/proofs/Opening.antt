-- What an opening that passes and one that is refused give back and leave.
use mathlib.Core.Path.{◌≡◌, refl}
use mathlib.Core.List.{List}
use mathlib.Core.Bool.{Bool, true, false, cond}
use Rattle.std.specs.Prelude.{Ok, Err}
use Rattle.book.specs.declared.Values.{Values}
use Rattle.book.specs.declared.Book.{Book}
use Rattle.book.specs.declared.Pool.{Pool}
use Rattle.book.specs.Opening.{opening_fine, opened, unopened, cleared}
use Rattle.calls.specs.Calls.{Opens}

module _ (v : Values) (pools pools' : List Pool) (b : Book) where
  pub passed : Opens v pools (Ok b) pools' → (opening_fine v pools ≡ true) × (b ≡ opened v) × (pools' ≡ cleared pools)
  passed o = go (opening_fine v pools) o.book o.table
    where
      go : (f : Bool) → Ok b ≡ cond f (Ok (opened v)) (Err (unopened v)) → pools' ≡ cond f (cleared pools) pools → (f ≡ true) × (b ≡ opened v) × (pools' ≡ cleared pools)
      go true e t = (refl, cc, t)
      go false e t = cc

  pub refused : Opens v pools (Err b) pools' → (opening_fine v pools ≡ false) × (b ≡ unopened v) × (pools' ≡ pools)
  refused o = go (opening_fine v pools) o.book o.table
    where
      go : (f : Bool) → Err b ≡ cond f (Ok (opened v)) (Err (unopened v)) → pools' ≡ cond f (cleared pools) pools → (f ≡ false) × (b ≡ unopened v) × (pools' ≡ pools)
      go true e t = cc
      go false e t = (refl, cc, t)
