-- 10 by the number of pools.
use mathlib.Core.Path.{◌≡◌, refl}
use mathlib.Core.List.{List}
use mathlib.Core.Bool.{Bool, true, false, cond, ◌&&◌}
use Prim.Native.Nat.{ℕ}
use lib.ListN.{length}
use lib.Dec.{leb, eqb}
use Rattle.lists.proofs.Tests.{and_left, and_right}
use Rattle.layout.specs.Details.{length_fits, pool_count, pools, pools_max, place_of}

-- 10 by the number of pools
pub fits_some : (body : List ℕ) → leb 1 (pool_count body) ≡ length_fits body
unfolding pool_count length_fits
fits_some body = go (length_fits body) refl
  where
    some : length_fits body ≡ true → leb 1 (pools body) ≡ true
    some e =
        let r = and_right (eqb (length body) (place_of (pools body))) (leb 1 (pools body) && leb (pools body) pools_max) e in
        and_left (leb 1 (pools body)) (leb (pools body) pools_max) r

    go : (b : Bool) → length_fits body ≡ b → leb 1 (cond b (pools body) 0) ≡ b
    go true e = some e
    go false e = refl
