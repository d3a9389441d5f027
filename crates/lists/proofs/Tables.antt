-- Laws of lists that are made by a function of the index.
use mathlib.Core.Path.{◌≡◌, refl, sym, ap, ◌∙◌}
use mathlib.Core.List.{List, [], ◌∷◌, map}
use Prim.Native.Nat.{ℕ, zero, suc, ◌+◌, ◌-◌, ◌≤◌, ◌<◌}
use native.Mathlib.Nat.{add-zero, sub-zero}
use native.Mathlib.Omega.{arith}
use lib.ListN.{length, get_or, take, drop}
use lib.Seq.{ext_get_or}
use Rattle.lists.specs.Lists.{tab}

module _ {A : Type 0} where
  pub length_tab : (f : ℕ → A) (n i : ℕ) → length (tab f n i) ≡ n
  length_tab f zero i = refl
  length_tab f (suc n) i = ap suc (length_tab f n (i + 1))

  pub get_d_tab : (f : ℕ → A) (n i k : ℕ) (d : A) → k < n → get_or (tab f n i) k d ≡ f (i + k)
  get_d_tab f zero i k d h = absurd (omega arith)
  get_d_tab f (suc n) i zero d h = ap f (omega arith)
  get_d_tab f (suc n) i (suc k) d h =
      let e : i + 1 + k ≡ i + suc k = omega arith in
      get_d_tab f n (i + 1) k d (omega arith) ∙ ap f e

  -- the first n of a table
  pub take_tab : (f : ℕ → A) (n m i : ℕ) → n ≤ m → take n (tab f m i) ≡ tab f n i
  take_tab f zero m i h = refl
  take_tab f (suc n) zero i h = absurd (omega arith)
  take_tab f (suc n) (suc m) i h = ap (λ (l : List A). f i ∷ l) (take_tab f n m (i + 1) (omega arith))

  -- what is left of a table after the first n
  pub drop_tab : (f : ℕ → A) (n m i : ℕ) → drop n (tab f m i) ≡ tab f (m - n) (i + n)
  drop_tab f zero m i = ap (λ (k : ℕ). tab f m k) (sym (add-zero i)) ∙ ap (λ (k : ℕ). tab f k (i + 0)) (sym (sub-zero m))
  drop_tab f (suc n) zero i =
      let e : 0 - suc n ≡ 0 = omega arith in
      rw e
  drop_tab f (suc n) (suc m) i =
      let e : i + 1 + n ≡ i + suc n = omega arith in
      let g : suc m - suc n ≡ m - n = omega arith in
      drop_tab f n m (i + 1) ∙ ap (λ (k : ℕ). tab f (m - n) k) e ∙ ap (λ (k : ℕ). tab f k (i + suc n)) (sym g)

  -- what is left at i starts with f i
  pub tab_turn : (f : ℕ → A) (n i : ℕ) → i < n → tab f (n - i) i ≡ f i ∷ tab f (n - (i + 1)) (i + 1)
  tab_turn f n i h =
      let e : n - i ≡ suc (n - (i + 1)) = omega arith in
      rw e

  -- nothing is left at the end
  pub tab_end : (f : ℕ → A) (n i : ℕ) → n ≤ i → tab f (n - i) i ≡ []
  tab_end f n i h =
      let e : n - i ≡ 0 = omega arith in
      rw e

  -- everything is left at the beginning
  pub tab_all : (f : ℕ → A) (n : ℕ) → tab f (n - 0) 0 ≡ tab f n 0
  tab_all f n = ap (λ (k : ℕ). tab f k 0) (sub-zero n)

  -- two functions that agree on the places of a table make the same table
  pub tab_same : (f g : ℕ → A) (n i : ℕ) → ((k : ℕ) → i ≤ k → k < i + n → f k ≡ g k) → tab f n i ≡ tab g n i
  tab_same f g zero i h = refl
  tab_same f g (suc n) i h =
      rw (h i (omega arith) (omega arith), tab_same f g n (i + 1) (λ (k : ℕ) a b. h k (omega arith) (omega arith)))

  -- a list is the table of its elements
  pub table_of_law : (d : A) (s : List A) (n : ℕ) → length s ≡ n → s ≡ tab (λ (i : ℕ). get_or s i d) n 0
  table_of_law d s n e =
      ext_get_or d s (tab (λ (i : ℕ). get_or s i d) n 0) (e ∙ sym (length_tab (λ (i : ℕ). get_or s i d) n 0))
      (λ (i : ℕ) h. sym (get_d_tab (λ (j : ℕ). get_or s j d) n 0 i d (omega (arith, e, h)) ∙ ap (λ (k : ℕ). get_or s k d) (omega arith)))

-- a function of each element of a table
pub map_tab : {A B : Type 0} (f : A → B) (g : ℕ → A) (n i : ℕ) → map f (tab g n i) ≡ tab (λ (k : ℕ). f (g k)) n i
map_tab f g zero i = refl
map_tab {A} {B} f g (suc n) i = ap (λ (l : List B). f (g i) ∷ l) (map_tab f g n (i + 1))
