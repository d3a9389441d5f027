-- Laws of tests, members and sums over lists, and of equality of lists of numbers.
use mathlib.Core.Path.{◌≡◌, refl, sym, ap, ap₂, ◌∙◌}
use mathlib.Core.Logic.{◌⊎◌, inl, inr}
use mathlib.Core.List.Memᴰ
use mathlib.Core.List.{List, [], ◌∷◌, ◌++◌, map, Memᴰ}
use mathlib.Core.Bool.{Bool, true, false, not, cond, ◌&&◌, ◌||◌, true≢false, false≢true, and-false}
use Prim.Native.Nat.{ℕ, zero, suc, ◌+◌}
use native.Mathlib.Omega.{arith}
use lib.ListN.{length, take}
use lib.Dec.{eqb}
use borrow.Author.Tests.{eq-eqb, eqb-true}
use Rattle.lists.specs.Lists.{keep, any, all, sum_of, same}

infix 20 ◌∈◌
abbrev pub ◌∈◌ : {A : Type 0} → A → List A → Type 0
x ∈ xs = Memᴰ x xs

pub and_left : (a b : Bool) → (a && b) ≡ true → a ≡ true
and_left true b e = refl
and_left false b e = e

pub and_right : (a b : Bool) → (a && b) ≡ true → b ≡ true
and_right true b e = e
and_right false b e = absurd (false≢true e)

pub both : (a b : Bool) → a ≡ true → b ≡ true → (a && b) ≡ true
both a b p q = rw (p, q)

pub clash : {A : Type 0} {b : Bool} → b ≡ true → b ≡ false → A
clash p q = absurd (true≢false (sym p ∙ q))

pub un_true : (b : Bool) → (b ≡ true → ⊥) → b ≡ false
un_true true k = absurd (k refl)
un_true false k = refl

-- a test of the form "not a, or b"
pub implied : (a b : Bool) → (not a || b) ≡ true → a ≡ true → b ≡ true
implied true b e p = e
implied false b e p = absurd (false≢true p)

pub cond_zero : (b : Bool) → ◌≡◌ {A = ℕ} (cond b 0 0) 0
cond_zero true = refl
cond_zero false = refl

module _ {A : Type 0} where
  pub sum_append : (f : A → ℕ) (xs ys : List A) → sum_of f (xs ++ ys) ≡ sum_of f xs + sum_of f ys
  sum_append f [] ys = omega arith
  sum_append f (x ∷ xs) ys = omega (arith, sum_append f xs ys)

  pub all_append : (p : A → Bool) (xs ys : List A) → all p (xs ++ ys) ≡ (all p xs && all p ys)
  all_append p [] ys = refl
  all_append p (x ∷ xs) ys =
      ap (λ (b : Bool). p x && b) (all_append p xs ys)
      ∙ elim (p x) as (λ b. (b && (all p xs && all p ys)) ≡ (b && all p xs && all p ys)) [ true ↦ refl | false ↦ refl ]

  pub all_in : (q : A → Bool) (xs : List A) → ((x : A) → x ∈ xs → q x ≡ true) → all q xs ≡ true
  all_in q [] h = refl
  all_in q (x ∷ xs) h = both (q x) (all q xs) (h x (Memᴰ.head refl)) (all_in q xs (λ y m. h y (Memᴰ.tail m)))

  pub all_out : (q : A → Bool) {x : A} {xs : List A} → x ∈ xs → all q xs ≡ true → q x ≡ true
  all_out q (Memᴰ.head {x = y} {xs = ys} p) e = rw p (and_left (q y) (all q ys) e)
  all_out q (Memᴰ.tail {x = y} {xs = ys} m) e = all_out q m (and_right (q y) (all q ys) e)

  pub all_right : (q : A → Bool) (xs ys : List A) → all q (xs ++ ys) ≡ true → all q ys ≡ true
  all_right q [] ys e = e
  all_right q (x ∷ xs) ys e = all_right q xs ys (and_right (q x) (all q (xs ++ ys)) e)

  pub any_in : (q : A → Bool) {x : A} {xs : List A} → x ∈ xs → q x ≡ true → any q xs ≡ true
  any_in q (Memᴰ.head p) e = rw (← p, e)
  any_in q (Memᴰ.tail {x = y} m) e = go (q y) (any_in q m e)
    where
      go : (b : Bool) {c : Bool} → c ≡ true → (b || c) ≡ true
      go true p = refl
      go false p = p

  pub any_out : (q : A → Bool) (xs : List A) → any q xs ≡ true → (x : A) × (x ∈ xs) × (q x ≡ true)
  any_out q [] e = absurd (false≢true e)
  any_out q (x ∷ xs) e = go (q x) refl e (any_out q xs)
    where
      go : (b : Bool) → q x ≡ b → (b || any q xs) ≡ true → (any q xs ≡ true → (y : A) × (y ∈ xs) × (q y ≡ true)) → (y : A) × (y ∈ (x ∷ xs)) × (q y ≡ true)
      go true p r below = (x, Memᴰ.head refl, p)
      go false p r below = let w = below r in (w.0, Memᴰ.tail w.1, w.2)

  pub any_none : (q : A → Bool) (xs : List A) → ((x : A) → q x ≡ false) → any q xs ≡ false
  any_none q [] h = refl
  any_none q (x ∷ xs) h = rw (h x) (any_none q xs h)

  pub any_append : (q : A → Bool) (xs ys : List A) → any q (xs ++ ys) ≡ (any q xs || any q ys)
  any_append q [] ys = refl
  any_append q (x ∷ xs) ys = rw (any_append q xs ys) (go (q x))
    where
      go : (b : Bool) → (b || (any q xs || any q ys)) ≡ ((b || any q xs) || any q ys)
      go true = refl
      go false = refl

  pub any_or : (q u : A → Bool) (xs : List A) → any (λ x. q x || u x) xs ≡ (any q xs || any u xs)
  any_or q u [] = refl
  any_or q u (x ∷ xs) = rw (any_or q u xs) (go (q x) (u x) (any q xs) (any u xs))
    where
      go : (a b c d : Bool) → ((a || b) || (c || d)) ≡ ((a || c) || (b || d))
      go true b c d = refl
      go false true true d = refl
      go false true false d = refl
      go false false c d = refl

  pub keep_append : (q : A → Bool) (xs ys : List A) → keep q (xs ++ ys) ≡ keep q xs ++ keep q ys
  keep_append q [] ys = refl
  keep_append q (x ∷ xs) ys = rw (keep_append q xs ys) (go (q x))
    where
      go : (b : Bool) → cond b (x ∷ (keep q xs ++ keep q ys)) (keep q xs ++ keep q ys) ≡ cond b (x ∷ keep q xs) (keep q xs) ++ keep q ys
      go true = refl
      go false = refl

  pub keep_all : (q : A → Bool) (xs : List A) → ((x : A) → x ∈ xs → q x ≡ true) → keep q xs ≡ xs
  keep_all q [] h = refl
  keep_all q (x ∷ xs) h = rw (h x (Memᴰ.head refl)) (ap (λ (l : List A). x ∷ l) (keep_all q xs (λ y m. h y (Memᴰ.tail m))))

  pub keep_none : (q : A → Bool) (xs : List A) → ((x : A) → x ∈ xs → q x ≡ false) → keep q xs ≡ []
  keep_none q [] h = refl
  keep_none q (x ∷ xs) h = rw (h x (Memᴰ.head refl)) (keep_none q xs (λ y m. h y (Memᴰ.tail m)))

  -- all or none of a list, where all its elements answer alike
  pub keep_const : (q : A → Bool) (b : Bool) (xs : List A) → ((x : A) → x ∈ xs → q x ≡ b) → keep q xs ≡ cond b xs []
  keep_const q true xs h = keep_all q xs h
  keep_const q false xs h = keep_none q xs h

  pub keep_in : (q : A → Bool) {x : A} (xs : List A) → x ∈ keep q xs → (x ∈ xs) × (q x ≡ true)
  keep_in q [] m = absurd (Memᴰ.not-nil m)
  keep_in q {x} (y ∷ xs) m = go (q y) refl m (keep_in q xs)
    where
      go : (b : Bool) → q y ≡ b → x ∈ cond b (y ∷ keep q xs) (keep q xs) → (x ∈ keep q xs → (x ∈ xs) × (q x ≡ true)) → (x ∈ (y ∷ xs)) × (q x ≡ true)
      go true e n below = by (Memᴰ.cases_cons n)
        where
          by : (x ≡ y) ⊎ (x ∈ keep q xs) → (x ∈ (y ∷ xs)) × (q x ≡ true)
          by (inl p) = (Memᴰ.head p, rw p e)
          by (inr n') = let w = below n' in (Memᴰ.tail w.0, w.1)
      go false e n below = let w = below n in (Memᴰ.tail w.0, w.1)

  -- the first of the elements that pass is one that passes
  pub keep_first : (q : A → Bool) (xs : List A) → any q xs ≡ true → (x : A) × (x ∈ xs) × (q x ≡ true) × ((ys : List A) × (keep q xs ≡ x ∷ ys))
  keep_first q [] e = absurd (false≢true e)
  keep_first q (x ∷ xs) e = go (q x) refl e (keep_first q xs)
    where
      go : (b : Bool) → q x ≡ b → (b || any q xs) ≡ true → (any q xs ≡ true → (y : A) × (y ∈ xs) × (q y ≡ true) × ((ys : List A) × (keep q xs ≡ y ∷ ys)))
          → (y : A) × (y ∈ (x ∷ xs)) × (q y ≡ true) × ((ys : List A) × (cond b (x ∷ keep q xs) (keep q xs) ≡ y ∷ ys))
      go true p a below = (x, Memᴰ.head refl, p, (keep q xs, refl))
      go false p a below = let w = below a in (w.0, Memᴰ.tail w.1, w.2, w.3)

  pub sum_same : (f g : A → ℕ) (xs : List A) → ((x : A) → x ∈ xs → f x ≡ g x) → sum_of f xs ≡ sum_of g xs
  sum_same f g [] h = refl
  sum_same f g (x ∷ xs) h = omega (arith, h x (Memᴰ.head refl), sum_same f g xs (λ y m. h y (Memᴰ.tail m)))

  pub sum_add : (f g : A → ℕ) (xs : List A) → sum_of (λ x. f x + g x) xs ≡ sum_of f xs + sum_of g xs
  sum_add f g [] = refl
  sum_add f g (x ∷ xs) = omega (arith, sum_add f g xs)

  pub sum_zero : (xs : List A) → sum_of (λ (x : A). 0) xs ≡ 0
  sum_zero [] = refl
  sum_zero (x ∷ xs) = omega (arith, sum_zero xs)

module _ {A B : Type 0} where
  pub sum_map : (f : B → ℕ) (g : A → B) (xs : List A) → sum_of f (map g xs) ≡ sum_of (λ x. f (g x)) xs
  sum_map f g [] = refl
  sum_map f g (x ∷ xs) = ap (λ (n : ℕ). f (g x) + n) (sum_map f g xs)

  pub take_map : (f : A → B) (n : ℕ) (xs : List A) → take n (map f xs) ≡ map f (take n xs)
  take_map f zero xs = refl
  take_map f (suc n) [] = refl
  take_map f (suc n) (x ∷ xs) = ap (λ (l : List B). f x ∷ l) (take_map f n xs)

pub same_refl : (xs : List ℕ) → same xs xs ≡ true
same_refl [] = refl
same_refl (x ∷ xs) = rw (eq-eqb x x refl, same_refl xs)

pub same_equal : (xs ys : List ℕ) → same xs ys ≡ true → xs ≡ ys
same_equal [] [] e = refl
same_equal [] (y ∷ ys) e = absurd (false≢true e)
same_equal (x ∷ xs) [] e = absurd (false≢true e)
same_equal (x ∷ xs) (y ∷ ys) e =
    ap₂ (λ (a : ℕ) (l : List ℕ). a ∷ l) (eqb-true x y (and_left (eqb x y) (same xs ys) e)) (same_equal xs ys (and_right (eqb x y) (same xs ys) e))

-- lists of unlike length are unlike
pub same_unlike : (a b : List ℕ) → (length a ≡ length b → ⊥) → false ≡ same a b
same_unlike [] [] h = absurd (h refl)
same_unlike [] (y ∷ ys) h = refl
same_unlike (x ∷ xs) [] h = refl
same_unlike (x ∷ xs) (y ∷ ys) h =
    let e : same xs ys ≡ false = sym (same_unlike xs ys (λ l. h (ap suc l))) in
    rw (e, and-false)
