-- Words that are below a limit, one by one.
use mathlib.Core.Path.{◌≡◌}
use mathlib.Core.Bool.{true}
use mathlib.Core.List.{List, [], ◌∷◌}
use Prim.Native.Nat.{ℕ, zero, suc, ◌<◌}
use native.Mathlib.Omega.{arith}
use lib.ListN.{length, get_or}
use lib.Dec.{ltb}
use borrow.Author.Tests.{ltb-true}
use Rattle.lists.specs.Lists.{all}
use Rattle.lists.proofs.Tests.{and_left, and_right}

pub each_below : (limit : ℕ) (ws : List ℕ) (k : ℕ) → all (λ (w : ℕ). ltb w limit) ws ≡ true → k < length ws → get_or ws k 0 < limit
each_below limit [] k e h = absurd (omega arith)
each_below limit (w ∷ ws) zero e h = ltb-true w limit (and_left (ltb w limit) (all (λ (v : ℕ). ltb v limit) ws) e)
each_below limit (w ∷ ws) (suc k) e h = each_below limit ws k (and_right (ltb w limit) (all (λ (v : ℕ). ltb v limit) ws) e) (omega arith)
