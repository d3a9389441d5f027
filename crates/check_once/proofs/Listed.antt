-- The matched fields of a message's new pools as a table of one message: it is in order, and its fields stand once where those of the pools are distinct.
use Rattle.std.proofs.Common.{◌≡◌, Bool, true, not, ◌&&◌, ◌||◌, eqb, List, [], ◌∷◌, map, refl, ap, ap₂}
use Rattle.lists.specs.Lists.{any}
use Rattle.layout.specs.declared.Detail.{Detail}
use Rattle.book.specs.declared.Pool.{Pool}
use Rattle.book.specs.Records.{Fields, fields_of, live_fields, same_fields, distinct}
use Rattle.book.specs.Soundness.{in_order, fields_once}
use Rattle.check_once.specs.Seen.{pool_with}

pub with_order : (ds : List Detail) → in_order (map pool_with ds) ≡ true
with_order [] = refl
with_order (d ∷ []) = refl
with_order (d ∷ e ∷ ds) = with_order (e ∷ ds)

any_with : (f : Fields) (ds : List Detail) → any (λ (s : Pool). eqb 0 s.message && same_fields f (live_fields s)) (map pool_with ds) ≡ any (same_fields f) (map fields_of ds)
any_with f [] = refl
any_with f (d ∷ ds) = ap (λ (b : Bool). same_fields f (fields_of d) || b) (any_with f ds)

pub with_once : (ds : List Detail) → fields_once (map pool_with ds) ≡ distinct (map fields_of ds)
with_once [] = refl
with_once (d ∷ ds) = ap₂ (λ (a b : Bool). not a && b) (any_with (fields_of d) ds) (with_once ds)
