-- Entries of lists of places, whose numbers go up by one: a number is that of one list, and the entries with it are those of its places.
use Prim.Native.Nat.{ℕ, ◌+◌, ◌≤◌}
use mathlib.Core.Path.{◌≡◌, refl, ap, ◌∙◌}
use mathlib.Core.Logic.{◌⊎◌, inl, inr}
use mathlib.Core.List.Memᴰ
use mathlib.Core.List.{List, [], ◌∷◌, ◌++◌, map, map-append}
use native.Mathlib.Omega.{arith}
use Rattle.lists.proofs.Tests.{◌∈◌}
use Rattle.check_listed.specs.Marks.{Entry}
use Rattle.check_listed.proofs.Taken.{map_from}

abbrev pub entry : ℕ → ℕ → Entry
entry k p = record { lot = k; place = p }

abbrev pub numbered : ℕ → List (List ℕ) → List Entry
numbered k [] = []
numbered k (g ∷ gs) = map (entry k) g ++ numbered (k + 1) gs

-- the places of all the lists
abbrev pub places_in : List (List ℕ) → List ℕ
places_in [] = []
places_in (g ∷ gs) = g ++ places_in gs

pub places_numbered : (k : ℕ) (gs : List (List ℕ)) → map (λ (e : Entry). e.place) (numbered k gs) ≡ places_in gs
places_numbered k [] = refl
places_numbered k (g ∷ gs) =
    map-append (λ (e : Entry). e.place) (map (entry k) g) (numbered (k + 1) gs)
    ∙ ap (λ (l : List ℕ). map (λ (e : Entry). e.place) (map (entry k) g) ++ l) (places_numbered (k + 1) gs)
    ∙ ap (λ (l : List ℕ). l ++ places_in gs) (own g)
  where
    own : (ps : List ℕ) → map (λ (e : Entry). e.place) (map (entry k) ps) ≡ ps
    own [] = refl
    own (p ∷ ps) = ap (λ (l : List ℕ). p ∷ l) (own ps)

-- an entry's list: all its places have the entry's number
pub list_of : (k : ℕ) (gs : List (List ℕ)) (e : Entry) → e ∈ numbered k gs
    → (g : List ℕ) × (g ∈ gs) × (e.place ∈ g) × (k ≤ e.lot) × ((p : ℕ) → p ∈ g → entry e.lot p ∈ numbered k gs)
list_of k [] e m = absurd (Memᴰ.not-nil m)
list_of k (g ∷ gs) e m = go (Memᴰ.append_cases (map (entry k) g) m) (list_of (k + 1) gs e)
  where
    go : (e ∈ map (entry k) g) ⊎ (e ∈ numbered (k + 1) gs)
        → (e ∈ numbered (k + 1) gs → (h : List ℕ) × (h ∈ gs) × (e.place ∈ h) × (k + 1 ≤ e.lot) × ((p : ℕ) → p ∈ h → entry e.lot p ∈ numbered (k + 1) gs))
        → (h : List ℕ) × (h ∈ (g ∷ gs)) × (e.place ∈ h) × (k ≤ e.lot) × ((p : ℕ) → p ∈ h → entry e.lot p ∈ numbered k (g ∷ gs))
    go (inl a) below =
        let (p, b, q) = map_from (entry k) g e a in
        let l : e.lot ≡ k = ap (λ (x : Entry). x.lot) q in (
          g,
          Memᴰ.head refl,
          Memᴰ.cast (ap (λ (x : Entry). x.place) q) b,
          omega (arith, l),
          λ r c. Memᴰ.append_left (numbered (k + 1) gs)
              (Memᴰ.cast (ap (λ (j : ℕ). entry j r) l) (Memᴰ.map (entry k) c)),
        )
    go (inr a) below =
        let (h, b, r, l, w) = below a in
        (h, Memᴰ.tail b, r, omega (arith, l), λ p c. Memᴰ.append_right (map (entry k) g) (w p c))

-- a list's number: its places have it, and no other entry has
pub number_of : (k : ℕ) (gs : List (List ℕ)) (g : List ℕ) → g ∈ gs
    → (j : ℕ) × (k ≤ j) × ((p : ℕ) → p ∈ g → entry j p ∈ numbered k gs) × ((e : Entry) → e ∈ numbered k gs → e.lot ≡ j → e.place ∈ g)
number_of k [] g m = absurd (Memᴰ.not-nil m)
number_of k (x ∷ xs) g m = go (Memᴰ.cases_cons m) (number_of (k + 1) xs g)
  where
    go : (g ≡ x) ⊎ (g ∈ xs)
        → (g ∈ xs → (j : ℕ) × (k + 1 ≤ j) × ((p : ℕ) → p ∈ g → entry j p ∈ numbered (k + 1) xs) × ((e : Entry) → e ∈ numbered (k + 1) xs → e.lot ≡ j
        → e.place ∈ g))
        → (j : ℕ) × (k ≤ j) × ((p : ℕ) → p ∈ g → entry j p ∈ numbered k (x ∷ xs)) × ((e : Entry) → e ∈ numbered k (x ∷ xs) → e.lot ≡ j → e.place ∈ g)
    go (inl q) below = (
      k,
      omega arith,
      λ p c. Memᴰ.append_left (numbered (k + 1) xs) (Memᴰ.map (entry k) (rw q at c)),
      λ e c l. by e l
          (Memᴰ.append_cases (map (entry k) x) c),
    )
      where
        by : (e : Entry) → e.lot ≡ k → (e ∈ map (entry k) x) ⊎ (e ∈ numbered (k + 1) xs) → e.place ∈ g
        by e l (inl a) = let (p, b, r) = map_from (entry k) x e a in rw q (Memᴰ.cast (ap (λ (y : Entry). y.place) r) b)
        by e l (inr a) = let (h, b, r, t, w) = list_of (k + 1) xs e a in absurd (omega (arith, t, l))
    go (inr m') below =
        let (j, h, a, b) = below m' in
        (j, omega (arith, h), λ p c. Memᴰ.append_right (map (entry k) x) (a p c), λ e c l. by j h b e l (Memᴰ.append_cases (map (entry k) x) c))
      where
        by : (j : ℕ) → k + 1 ≤ j → ((e : Entry) → e ∈ numbered (k + 1) xs → e.lot ≡ j → e.place ∈ g) → (e : Entry) → e.lot ≡ j
            → (e ∈ map (entry k) x) ⊎ (e ∈ numbered (k + 1) xs) → e.place ∈ g
        by j h b e l (inl a) = let (p, c, r) = map_from (entry k) x e a in absurd (omega (arith, h, l, ap (λ (y : Entry). y.lot) r))
        by j h b e l (inr a) = b e a l

-- members of the places of all lists
pub places_out : (gs : List (List ℕ)) (p : ℕ) → p ∈ places_in gs → (g : List ℕ) × (g ∈ gs) × (p ∈ g)
places_out [] p m = absurd (Memᴰ.not-nil m)
places_out (g ∷ gs) p m = go (Memᴰ.append_cases g m) (places_out gs p)
  where
    go : (p ∈ g) ⊎ (p ∈ places_in gs) → (p ∈ places_in gs → (h : List ℕ) × (h ∈ gs) × (p ∈ h)) → (h : List ℕ) × (h ∈ (g ∷ gs)) × (p ∈ h)
    go (inl a) below = (g, Memᴰ.head refl, a)
    go (inr a) below = let (h, b, c) = below a in (h, Memᴰ.tail b, c)

pub places_in_law : (gs : List (List ℕ)) (g : List ℕ) (p : ℕ) → g ∈ gs → p ∈ g → p ∈ places_in gs
places_in_law [] g p m c = absurd (Memᴰ.not-nil m)
places_in_law (x ∷ xs) g p m c = go (Memᴰ.cases_cons m) (λ k. places_in_law xs g p k c)
  where
    go : (g ≡ x) ⊎ (g ∈ xs) → (g ∈ xs → p ∈ places_in xs) → p ∈ places_in (x ∷ xs)
    go (inl q) below = Memᴰ.append_left (places_in xs) (rw q at c)
    go (inr k) below = Memᴰ.append_right x (below k)
