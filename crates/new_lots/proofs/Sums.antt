-- The lots that a reader of lots gives are those of the message, by their sums: some new one fails 35 where some new lot does,
-- and their weights are the lots', which are no more than the pools can weigh.
use Rattle.std.proofs.Common.{◌≡◌, refl, sym, ap, ◌∙◌, ℕ, ◌+◌, ◌*◌, ◌^◌, ◌≤◌, ◌<◌, Bool, true, false, cond, ◌||◌, List, [], ◌∷◌, ◌++◌, map, length, sum_by, arith, length-append}
use Rattle.lists.specs.Lists.{sum_of, any, keep}
use Rattle.lists.proofs.Tests.{sum_append, sum_map}
use Rattle.lists.proofs.Folds.{fold_sum}
use Rattle.layout.specs.declared.Detail.{Detail}
use Rattle.layout.specs.Details.{details}
use Rattle.layout.proofs.Lengths.{count_max}
use Rattle.layout.proofs.Reader.{length_details}
use Rattle.terminator.specs.declared.Terminator.{Terminator}
use Rattle.terminator.specs.declared.Terminator.TheVariants.{GoodEnd}
use Rattle.terminator.specs.Terminators.{is_end, kind_of, millions_of, term}
use Rattle.terminator.specs.Lots.{Lot, pools_of, current_cents, weight_of, lot_weight, lots_from, lots}
use Rattle.terminator.proofs.Marks.{millions_small}
use Rattle.terminator.proofs.Found.{cents_small}
use Rattle.faces.specs.Faces.{is_new_lot, new_lots, lot_fails, lots_fail, new_weight}
use Rattle.new_lots.specs.declared.LotSum.{LotSum}
use Rattle.new_lots.specs.Lots.{lot_ended, lots_after, sum_fails}

-- a lot by its sums
abbrev sum_of_lot : Lot → LotSum
sum_of_lot l =
    record {
      end = term l.last;
      new = is_new_lot l;
      cents = sum_of current_cents (pools_of l);
      pools = length (pools_of l);
      weight = weight_of (kind_of (term l.last)) (millions_of (term l.last)) (sum_of current_cents (pools_of l));
    }

-- its weight
abbrev pub sum_weight : LotSum → ℕ
sum_weight s = s.weight

lots_are : (ms ds : List Detail) → lots_after (sum_of current_cents ms) (length ms) ds ≡ map sum_of_lot (lots_from ms ds)
lots_are ms [] = refl
lots_are ms (d ∷ ds) = go (is_end (term d)) (lots_are [] ds) (lots_are (ms ++ (d ∷ [])) ds)
  where
    cents : sum_of current_cents ms + current_cents d ≡ sum_of current_cents (ms ++ (d ∷ []))
    cents = omega (arith, sum_append current_cents ms (d ∷ []))

    pools : length ms + 1 ≡ length (ms ++ (d ∷ []))
    pools = sym (length-append ms (d ∷ []))

    go : (b : Bool) → lots_after 0 0 ds ≡ map sum_of_lot (lots_from [] ds)
        → lots_after (sum_of current_cents (ms ++ (d ∷ []))) (length (ms ++ (d ∷ []))) ds ≡ map sum_of_lot (lots_from (ms ++ (d ∷ [])) ds)
        → cond b (lot_ended (sum_of current_cents ms) (length ms) d ∷ lots_after 0 0 ds)
        (lots_after (sum_of current_cents ms + current_cents d) (length ms + 1) ds)
        ≡ map sum_of_lot (cond b (record { middles = ms; last = d } ∷ lots_from [] ds) (lots_from (ms ++ (d ∷ [])) ds))
    go true h k = rw (cents, pools, h)
    go false h k = rw (cents, pools) k

keep_map : {A B : Type 0} (q : B → Bool) (f : A → B) (xs : List A) → keep q (map f xs) ≡ map f (keep (λ x. q (f x)) xs)
keep_map q f [] = refl
keep_map {A} {B} q f (x ∷ xs) = go (q (f x)) (keep_map q f xs)
  where
    go : (b : Bool) → keep q (map f xs) ≡ map f (keep (λ y. q (f y)) xs)
        → cond b (f x ∷ keep q (map f xs)) (keep q (map f xs)) ≡ map f (cond b (x ∷ keep (λ y. q (f y)) xs) (keep (λ y. q (f y)) xs))
    go true h = ap (λ (l : List B). f x ∷ l) h
    go false h = h

-- the new lots of a message
abbrev pub new_sums : List Detail → List LotSum
new_sums ds = keep (λ s. s.new) (lots_after 0 0 ds)

new_are : (ds : List Detail) → new_sums ds ≡ map sum_of_lot (new_lots ds)
unfolding lots
new_are ds = ap (keep (λ s. s.new)) (lots_are [] ds) ∙ keep_map (λ s. s.new) sum_of_lot (lots_from [] ds)

-- ---- 35
any_map : {A B : Type 0} (q : B → Bool) (f : A → B) (xs : List A) → any q (map f xs) ≡ any (λ x. q (f x)) xs
any_map q f [] = refl
any_map q f (x ∷ xs) = ap (λ b. q (f x) || b) (any_map q f xs)

pub fails_are : (variance most : ℕ) (ds : List Detail) → any (sum_fails variance most) (new_sums ds) ≡ lots_fail variance most ds
unfolding lots_fail lot_fails
fails_are variance most ds = rw (new_are ds) (any_map (sum_fails variance most) sum_of_lot (new_lots ds))

-- ---- the weight
pub weights_are : (ds : List Detail) → sum_by sum_weight (new_sums ds) ≡ new_weight ds
unfolding new_weight lot_weight
weights_are ds = fold_sum sum_weight 0 (new_sums ds) ∙ rw (new_are ds) (omega (arith, sum_map sum_weight sum_of_lot (new_lots ds)))

weight_small : (t : Terminator) (sum face : ℕ) → millions_of t ≤ 99 → face < 100000000000
    → weight_of (kind_of t) (millions_of t) (sum + face) ≤ sum + 100000000000
weight_small (GoodEnd n) sum face h k = omega arith
weight_small _ sum face h k = omega arith

-- no lot weighs more than so many cents for each of its pools
weights_small : (cents pools : ℕ) (ds : List Detail) → sum_of sum_weight (keep (λ s. s.new) (lots_after cents pools ds)) ≤ cents + 100000000000 * length ds
weights_small cents pools [] = omega arith
weights_small cents pools (d ∷ ds) = go (is_end (term d)) (weights_small 0 0 ds) (weights_small (cents + current_cents d) (pools + 1) ds)
  where
    w : weight_of (kind_of (term d)) (millions_of (term d)) (cents + current_cents d) ≤ cents + 100000000000
    w = weight_small (term d) cents (current_cents d) (millions_small d) (cents_small d)

    go : (e : Bool) → sum_of sum_weight (keep (λ s. s.new) (lots_after 0 0 ds)) ≤ 0 + 100000000000 * length ds
        → sum_of sum_weight (keep (λ s. s.new) (lots_after (cents + current_cents d) (pools + 1) ds)) ≤ cents + current_cents d + 100000000000 * length ds
        → sum_of sum_weight (keep (λ s. s.new) (cond e (lot_ended cents pools d ∷ lots_after 0 0 ds) (lots_after (cents + current_cents d) (pools + 1) ds)))
        ≤ cents + 100000000000 * length (d ∷ ds)
    go true h k = grind (arith, w, h)
    go false h k = omega (arith, k, cents_small d)

pub weights_fit : (body : List ℕ) → sum_by sum_weight (new_sums (details body)) < 2 ^ 64
weights_fit body = omega (arith, fold_sum sum_weight 0 (new_sums (details body)), weights_small 0 0 (details body), length_details body, count_max body)
