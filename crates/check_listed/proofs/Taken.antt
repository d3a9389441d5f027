-- Records that a list of places takes off: those of the places, since no two records of the target have equal fields; and whole lots of them.
use Prim.Native.Nat.{ℕ, ◌<◌}
use mathlib.Core.Path.{◌≡◌, refl}
use mathlib.Core.Logic.{◌⊎◌, inl, inr}
use mathlib.Core.List.Memᴰ
use mathlib.Core.List.{List, [], ◌∷◌, map}
use mathlib.Core.Bool.{Bool, true, not, ◌||◌}
use native.Mathlib.Omega.{arith}
use Rattle.std.specs.Prelude.{Option}
use Rattle.lists.specs.Lists.{tab, all}
use Rattle.lists.proofs.Tests.{◌∈◌, and_left, and_right, both, implied}
use Rattle.book.specs.declared.Pool.{Pool}
use Rattle.book.specs.Records.{Fields, live_fields, has_fields, same_lot}
use Rattle.book.specs.Messages.{under}
use Rattle.book.specs.Soundness.{in_order, fields_once}
use Rattle.book.specs.Checks.{is_taken}
use Rattle.book.proofs.ByRecord.{whole_lots}
use Rattle.book.proofs.Targets.{has_in, has_out, under_one}
use Rattle.book.proofs.ListLaws.{implies}
use Rattle.check_listed.proofs.Indexed.{all_each, each_all, place_once}

-- an element of a mapped list is that of an element
pub map_from : {A B : Type 0} (g : A → B) (xs : List A) (y : B) → y ∈ map g xs → (x : A) × (x ∈ xs) × (y ≡ g x)
map_from g [] y m = absurd (Memᴰ.not-nil m)
map_from {A} g (x ∷ xs) y m = go (Memᴰ.cases_cons m) (map_from g xs y)
  where
    go : (y ≡ g x) ⊎ (y ∈ map g xs) → (y ∈ map g xs → (z : A) × (z ∈ xs) × (y ≡ g z)) → (z : A) × (z ∈ (x ∷ xs)) × (y ≡ g z)
    go (inl e) below = (x, Memᴰ.head refl, e)
    go (inr m') below = let (z, k, e) = below m' in (z, Memᴰ.tail k, e)

module _ (tgt : Option ℕ) (f : ℕ → Pool) (n : ℕ) (order : in_order (tab f n 0) ≡ true) (once : fields_once (tab f n 0) ≡ true) where
  abbrev pub fields_at : ℕ → Fields
  fields_at p = live_fields (f p)

  -- places of the target's live records
  abbrev pub Within : List ℕ → Type 0
  Within ps = (p : ℕ) → p ∈ ps → (p < n) × (under tgt (f p) ≡ true)

  pub taken_in : (ps : List ℕ) → Within ps → (i : ℕ) → i ∈ ps → is_taken tgt (map fields_at ps) (f i) ≡ true
  taken_in ps w i m = both (under tgt (f i)) (has_fields (live_fields (f i)) (map fields_at ps)) (w i m).1 (has_in (Memᴰ.map fields_at m))

  -- two of the target's places with equal fields are one
  pub same_place : (i j : ℕ) → i < n → j < n → under tgt (f i) ≡ true → under tgt (f j) ≡ true → fields_at i ≡ fields_at j → i ≡ j
  same_place i j h l a b e = place_once f n order once i j h l (under_one tgt (f i) (f j) a b) e

  pub taken_out : (ps : List ℕ) → Within ps → (i : ℕ) → i < n → is_taken tgt (map fields_at ps) (f i) ≡ true → i ∈ ps
  taken_out ps w i h t =
      let u : under tgt (f i) ≡ true = and_left (under tgt (f i)) (has_fields (live_fields (f i)) (map fields_at ps)) t in
      let (p, m, e) =
      map_from fields_at ps (live_fields (f i))
      (has_out (live_fields (f i)) (map fields_at ps) (and_right (under tgt (f i)) (has_fields (live_fields (f i)) (map fields_at ps)) t)) in
      let q : i ≡ p = same_place i p h (w p m).0 u (w p m).1 e in
      rw q m

  -- places that are whole lots
  abbrev pub Closed : List ℕ → Type 0
  Closed ps = (i j : ℕ) → j < n → i ∈ ps → same_lot (f i) (f j) ≡ true → j ∈ ps

  pub whole_closed : (ps : List ℕ) → Within ps → whole_lots tgt (map fields_at ps) (tab f n 0) ≡ true → Closed ps
  whole_closed ps w e i j h m s =
      let q : Pool → Bool = is_taken tgt (map fields_at ps) in
      let a = implied (q (f i)) (all (λ (s : Pool). not (same_lot (f i) s) || q s) (tab f n 0))
      (all_each f (λ (r : Pool). not (q r) || all (λ (s : Pool). not (same_lot r s) || q s) (tab f n 0)) n 0 e i (omega arith) (omega (arith, (w i m).0)))
      (taken_in ps w i m) in
      taken_out ps w j h (implied (same_lot (f i) (f j)) (q (f j))
      (all_each f (λ (s : Pool). not (same_lot (f i) s) || q s) n 0 a j (omega arith) (omega arith)) s)

  pub closed_whole : (ps : List ℕ) → Within ps → Closed ps → whole_lots tgt (map fields_at ps) (tab f n 0) ≡ true
  closed_whole ps w k =
      let q : Pool → Bool = is_taken tgt (map fields_at ps) in
      each_all f (λ (r : Pool). not (q r) || all (λ (s : Pool). not (same_lot r s) || q s) (tab f n 0)) n 0
      (λ i a b. implies (q (f i)) (all (λ (s : Pool). not (same_lot (f i) s) || q s) (tab f n 0))
      (λ t. each_all f (λ (s : Pool). not (same_lot (f i) s) || q s) n 0
      (λ j u v. implies (same_lot (f i) (f j)) (q (f j)) (λ s. taken_in ps w j (k i j (omega arith) (taken_out ps w i (omega arith) t) s)))))
