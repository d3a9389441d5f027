-- Laws of tests, of lists kept by a test and of a search, that nothing of the book stands in.
use Prim.Native.Nat.{ℕ, zero, suc, ◌+◌, ◌≤◌}
use mathlib.Core.Path.{◌≡◌, refl, sym, ap, ◌∙◌}
use mathlib.Core.Logic.{◌⊎◌, inl, inr}
use mathlib.Core.List.Memᴰ
use mathlib.Core.List.{List, [], ◌∷◌, ◌++◌, map}
use mathlib.Core.Bool.{Bool, true, false, cond, not, ◌&&◌, ◌||◌, false≢true, true≢false}
use native.Mathlib.Omega.{arith}
use lib.ListN.{length, replicate}
use Rattle.lists.specs.Lists.{keep, any, all, sum_of}
use Rattle.lists.proofs.Tests.{◌∈◌, and_left, and_right, both}

-- ---- tests
pub or_split : (a b : Bool) → (a || b) ≡ true → (a ≡ true) ⊎ (b ≡ true)
or_split true b e = inl refl
or_split false b e = inr e

pub or_left : (a b : Bool) → a ≡ true → (a || b) ≡ true
or_left a b e = rw e

pub or_right : (a b : Bool) → b ≡ true → (a || b) ≡ true
or_right true b e = refl
or_right false b e = e

pub neither_left : (a b : Bool) → (a || b) ≡ false → a ≡ false
neither_left true b e = e
neither_left false b e = refl

-- two tests that say the same
pub alike : (a b : Bool) → (a ≡ true → b ≡ true) → (b ≡ true → a ≡ true) → a ≡ b
alike true b f g = sym (f refl)
alike false true f g = g refl
alike false false f g = refl

pub implies : (a b : Bool) → (a ≡ true → b ≡ true) → (not a || b) ≡ true
implies true b h = h refl
implies false b h = refl

-- ---- lists kept by a test
module _ {A : Type 0} where
  pub keep_member : (q : A → Bool) {x : A} {xs : List A} → x ∈ xs → q x ≡ true → x ∈ keep q xs
  keep_member q {x} (Memᴰ.head {x = y} {xs = ys} p) e = rw (sym (ap q p) ∙ e) (Memᴰ.head p)
  keep_member q {x} (Memᴰ.tail {x = y} {xs = ys} m) e = go (q y) (keep_member q m e)
    where
      go : (b : Bool) → x ∈ keep q ys → x ∈ cond b (y ∷ keep q ys) (keep q ys)
      go true k = Memᴰ.tail k
      go false k = k

  pub all_keep : (p q : A → Bool) (xs : List A) → all p xs ≡ true → all p (keep q xs) ≡ true
  all_keep p q [] e = refl
  all_keep p q (x ∷ xs) e = go (q x) (all_keep p q xs (and_right (p x) (all p xs) e))
    where
      go : (b : Bool) → all p (keep q xs) ≡ true → all p (cond b (x ∷ keep q xs) (keep q xs)) ≡ true
      go true h = both (p x) (all p (keep q xs)) (and_left (p x) (all p xs) e) h
      go false h = h

  pub all_same : (p q : A → Bool) (xs : List A) → ((x : A) → x ∈ xs → p x ≡ q x) → all p xs ≡ all q xs
  all_same p q [] h = refl
  all_same p q (x ∷ xs) h = rw (h x (Memᴰ.head refl), all_same p q xs (λ y m. h y (Memᴰ.tail m)))

  pub all_implied : (p q : A → Bool) → ((x : A) → p x ≡ true → q x ≡ true) → (xs : List A) → all p xs ≡ true → all q xs ≡ true
  all_implied p q h [] e = refl
  all_implied p q h (x ∷ xs) e = both (q x) (all q xs) (h x (and_left (p x) (all p xs) e)) (all_implied p q h xs (and_right (p x) (all p xs) e))

  pub all_both : (p : A → Bool) (xs ys : List A) → all p xs ≡ true → all p ys ≡ true → all p (xs ++ ys) ≡ true
  all_both p [] ys e f = f
  all_both p (x ∷ xs) ys e f = both (p x) (all p (xs ++ ys)) (and_left (p x) (all p xs) e) (all_both p xs ys (and_right (p x) (all p xs) e) f)

  pub all_replicate : (p : A → Bool) (n : ℕ) (x : A) → p x ≡ true → all p (replicate n x) ≡ true
  all_replicate p zero x e = refl
  all_replicate p (suc n) x e = both (p x) (all p (replicate n x)) e (all_replicate p n x e)

  pub sum_keep : (f : A → ℕ) (q : A → Bool) (xs : List A) → sum_of f (keep q xs) ≡ sum_of (λ (x : A). cond (q x) (f x) 0) xs
  sum_keep f q [] = refl
  sum_keep f q (x ∷ xs) = go (q x) (sum_keep f q xs)
    where
      go : (b : Bool) → sum_of f (keep q xs) ≡ sum_of (λ (y : A). cond (q y) (f y) 0) xs
          → sum_of f (cond b (x ∷ keep q xs) (keep q xs)) ≡ cond b (f x) 0 + sum_of (λ (y : A). cond (q y) (f y) 0) xs
      go true h = omega (arith, h)
      go false h = omega (arith, h)

  pub length_keep : (q : A → Bool) (xs : List A) → length (keep (λ (x : A). not (q x)) xs) + length (keep q xs) ≡ length xs
  length_keep q [] = refl
  length_keep q (x ∷ xs) = go (q x) (length_keep q xs)
    where
      go : (b : Bool) → length (keep (λ (y : A). not (q y)) xs) + length (keep q xs) ≡ length xs
          → length (cond (not b) (x ∷ keep (λ (y : A). not (q y)) xs) (keep (λ (y : A). not (q y)) xs)) + length (cond b (x ∷ keep q xs) (keep q xs)) ≡ length (x ∷ xs)
      go true h = omega (arith, h)
      go false h = omega (arith, h)

  pub keep_some : (q : A → Bool) (xs : List A) → any q xs ≡ true → 1 ≤ length (keep q xs)
  keep_some q [] e = absurd (false≢true e)
  keep_some q (x ∷ xs) e = go (q x) e (keep_some q xs)
    where
      go : (b : Bool) → (b || any q xs) ≡ true → (any q xs ≡ true → 1 ≤ length (keep q xs)) → 1 ≤ length (cond b (x ∷ keep q xs) (keep q xs))
      go true f h = omega arith
      go false f h = h f

  -- two tests that never hold together, and a third that holds where either does
  pub keep_two : (p q s : A → Bool) → ((x : A) → p x ≡ true → q x ≡ false) → ((x : A) → p x ≡ true → s x ≡ true) → ((x : A) → q x ≡ true → s x ≡ true)
      → (xs : List A) → length (keep p xs) + length (keep q xs) ≤ length (keep s xs)
  keep_two p q s a f g [] = omega arith
  keep_two p q s a f g (x ∷ xs) = go (p x) (q x) (s x) (a x) (f x) (g x) (keep_two p q s a f g xs)
    where
      go : (b c d : Bool) → (b ≡ true → c ≡ false) → (b ≡ true → d ≡ true) → (c ≡ true → d ≡ true)
          → length (keep p xs) + length (keep q xs) ≤ length (keep s xs)
          → length (cond b (x ∷ keep p xs) (keep p xs)) + length (cond c (x ∷ keep q xs) (keep q xs)) ≤ length (cond d (x ∷ keep s xs) (keep s xs))
      go true true d u v w h = absurd (true≢false (u refl))
      go true false true u v w h = omega (arith, h)
      go true false false u v w h = absurd (false≢true (v refl))
      go false true true u v w h = omega (arith, h)
      go false true false u v w h = absurd (false≢true (w refl))
      go false false true u v w h = omega (arith, h)
      go false false false u v w h = h

module _ {A B : Type 0} where
  pub all_map : (p : B → Bool) (f : A → B) → ((x : A) → p (f x) ≡ true) → (xs : List A) → all p (map f xs) ≡ true
  all_map p f h [] = refl
  all_map p f h (x ∷ xs) = both (p (f x)) (all p (map f xs)) (h x) (all_map p f h xs)

  pub all_of_map : (p : B → Bool) (f : A → B) (xs : List A) → all p (map f xs) ≡ all (λ (x : A). p (f x)) xs
  all_of_map p f [] = refl
  all_of_map p f (x ∷ xs) = ap (λ (b : Bool). p (f x) && b) (all_of_map p f xs)

pub not_any : {A : Type 0} (p : A → Bool) (xs : List A) → not (any p xs) ≡ all (λ (x : A). not (p x)) xs
not_any p [] = refl
not_any {A} p (x ∷ xs) = rw (← not_any p xs) (elim (p x) as (λ b. not (b || any p xs) ≡ (not b && not (any p xs))) [ true ↦ refl | false ↦ refl ])

-- ---- a relation that holds of each element and all that come later
module _ {A : Type 0} (before : A → A → Bool) where
  abbrev pub pairwise : List A → Bool
  pairwise [] = true
  pairwise (x ∷ xs) = all (before x) xs && pairwise xs

  pub pairwise_keep : (p : A → Bool) (xs : List A) → pairwise xs ≡ true → pairwise (keep p xs) ≡ true
  pairwise_keep p [] e = refl
  pairwise_keep p (x ∷ xs) e = go (p x) (pairwise_keep p xs (and_right (all (before x) xs) (pairwise xs) e))
    where
      go : (b : Bool) → pairwise (keep p xs) ≡ true → pairwise (cond b (x ∷ keep p xs) (keep p xs)) ≡ true
      go true h = both (all (before x) (keep p xs)) (pairwise (keep p xs)) (all_keep (before x) p xs (and_left (all (before x) xs) (pairwise xs) e)) h
      go false h = h

  pub pairwise_append : (xs ys : List A) → pairwise xs ≡ true → pairwise ys ≡ true → all (λ (x : A). all (before x) ys) xs ≡ true → pairwise (xs ++ ys) ≡ true
  pairwise_append [] ys e f a = f
  pairwise_append (x ∷ xs) ys e f a =
      both (all (before x) (xs ++ ys)) (pairwise (xs ++ ys))
      (all_both (before x) xs ys (and_left (all (before x) xs) (pairwise xs) e) (and_left (all (before x) ys) (all (λ (y : A). all (before y) ys) xs) a))
      (pairwise_append xs ys (and_right (all (before x) xs) (pairwise xs) e) f (and_right (all (before x) ys) (all (λ (y : A). all (before y) ys) xs) a))

pub pairwise_map : {A B : Type 0} (before : A → A → Bool) (over : B → B → Bool) (f : A → B) → ((x y : A) → over (f x) (f y) ≡ true → before x y ≡ true)
    → (xs : List A) → pairwise over (map f xs) ≡ true → pairwise before xs ≡ true
pairwise_map before over f h [] e = refl
pairwise_map {A} before over f h (x ∷ xs) e =
    let near : all (λ (y : A). over (f x) (f y)) xs ≡ true = sym (all_of_map (over (f x)) f xs) ∙ and_left (all (over (f x)) (map f xs)) (pairwise over (map f xs)) e in
    both (all (before x) xs) (pairwise before xs) (all_implied (λ (y : A). over (f x) (f y)) (before x) (h x) xs near)
    (pairwise_map before over f h xs (and_right (all (over (f x)) (map f xs)) (pairwise over (map f xs)) e))
