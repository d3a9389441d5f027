-- Even marks: records of one lot, which follow one another, have equal marks exactly if each list of places is whole lots.
use Prim.Native.Nat.{ℕ, zero, suc, ◌+◌, ◌-◌, ◌≤◌, ◌<◌}
use mathlib.Core.Path.{◌≡◌, sym, ap, ◌∙◌}
use mathlib.Core.Logic.{◌⊎◌, inl, inr}
use mathlib.Core.List.Memᴰ
use mathlib.Core.List.{List}
use mathlib.Core.Bool.{true}
use native.Mathlib.Omega.{arith}
use native.Mathlib.Decide.{dec_lt}
use Rattle.std.specs.Prelude.{Option}
use Rattle.lists.specs.Lists.{tab}
use Rattle.lists.proofs.Tests.{◌∈◌}
use Rattle.book.specs.declared.Pool.{Pool}
use Rattle.book.specs.Records.{same_lot}
use Rattle.book.specs.Messages.{under}
use Rattle.book.specs.Soundness.{in_order, fields_once}
use Rattle.book.proofs.Ordered.{lot_parts, lot_sym, lot_trans}
use Rattle.book.proofs.Targets.{under_message}
use Rattle.check_listed.specs.Marks.{Entry}
use Rattle.check_listed.proofs.Indexed.{lot_next}
use Rattle.check_listed.proofs.Numbered.{entry, numbered, list_of, number_of}

module _ (tgt : Option ℕ) (f : ℕ → Pool) (n : ℕ) (order : in_order (tab f n 0) ≡ true) (once : fields_once (tab f n 0) ≡ true) (start stop : ℕ)
    (m : ℕ → ℕ) where
  -- neighbors of one lot among the target's places have equal marks
  abbrev pub Even : Type 0
  Even = (i : ℕ) → start ≤ i → i + 1 < stop → same_lot (f i) (f (i + 1)) ≡ true → m i ≡ m (i + 1)

  even_from : stop ≤ n → Even → (d i : ℕ) → start ≤ i → i + d < stop → same_lot (f i) (f (i + d)) ≡ true → m i ≡ m (i + d)
  even_from b e zero i h l s = ap m (omega arith)
  even_from b e (suc d) i h l s =
      let q : i + suc d ≡ i + 1 + d = omega arith in
      let a : same_lot (f i) (f (i + 1)) ≡ true = lot_next f n order once i (i + suc d) (omega arith) (omega arith) s in
      e i h (omega arith) a ∙ even_from b e d (i + 1) (omega arith) (omega arith)
      (rw q at (lot_trans (f (i + 1)) (f i) (f (i + suc d)) (lot_sym (f i) (f (i + 1)) a) s)) ∙ ap m (sym q)

  even_far : stop ≤ n → Even → (i j : ℕ) → start ≤ i → i < stop → start ≤ j → j < stop → same_lot (f i) (f j) ≡ true → m i ≡ m j
  even_far b e i j h l a d s = go (dec_lt i j)
    where
      go : Dec (i < j) → m i ≡ m j
      go (yes o) =
          let q : i + (j - i) ≡ j = omega arith in
          even_from b e (j - i) i h (omega arith) (rw q s) ∙ ap m q
      go (no o) =
          let q : j + (i - j) ≡ i = omega (arith, o) in
          sym (even_from b e (i - j) j a (omega (arith, q)) (rw q (lot_sym (f i) (f j) s)) ∙ ap m q)

  -- marks that are those of numbered lists of the target's places
  module _ (gs : List (List ℕ))
      (inside : (i : ℕ) → i < n → under tgt (f i) ≡ true → (start ≤ i) × (i < stop)) (bound : stop ≤ n)
      (within : (g : List ℕ) → g ∈ gs → (p : ℕ) → p ∈ g → (p < n) × (under tgt (f p) ≡ true))
      (given : (e : Entry) → e ∈ numbered 1 gs → m e.place ≡ e.lot)
      (from : (i : ℕ) → i < n → (m i ≡ 0) ⊎ ((e : Entry) × (e ∈ numbered 1 gs) × (e.place ≡ i) × (e.lot ≡ m i))) where
    pub even_closed : Even → (g : List ℕ) → g ∈ gs → (i j : ℕ) → j < n → i ∈ g → same_lot (f i) (f j) ≡ true → j ∈ g
    even_closed e g k i j l c s = go (from j l)
      where
        w : (i < n) × (under tgt (f i) ≡ true)
        w = within g k i c

        number : (x : ℕ) × (1 ≤ x) × ((p : ℕ) → p ∈ g → entry x p ∈ numbered 1 gs) × ((y : Entry) → y ∈ numbered 1 gs → y.lot ≡ x → y.place ∈ g)
        number = number_of 1 gs g k

        here : m i ≡ number.0
        here = given (entry number.0 i) (number.2 i c)

        there : m i ≡ m j
        there =
            let a = inside i w.0 w.1 in
            let b = inside j l (under_message tgt (f i) (f j) w.1 (lot_parts (f i) (f j) s).0) in
            even_far bound e i j a.0 a.1 b.0 b.1 s

        go : (m j ≡ 0) ⊎ ((y : Entry) × (y ∈ numbered 1 gs) × (y.place ≡ j) × (y.lot ≡ m j)) → j ∈ g
        go (inl z) = absurd (omega (arith, z, here, there, number.1))
        go (inr (y, a, r, q)) = rw r at (number.3 y a (q ∙ sym there ∙ here))

    -- a mark goes over to the records of its lot
    goes_over : ((g : List ℕ) → g ∈ gs → (i j : ℕ) → j < n → i ∈ g → same_lot (f i) (f j) ≡ true → j ∈ g)
        → (i j : ℕ) → i < n → j < n → same_lot (f i) (f j) ≡ true → (m i ≡ 0) ⊎ (m j ≡ m i)
    goes_over c i j h l s = go (from i h)
      where
        go : (m i ≡ 0) ⊎ ((e : Entry) × (e ∈ numbered 1 gs) × (e.place ≡ i) × (e.lot ≡ m i)) → (m i ≡ 0) ⊎ (m j ≡ m i)
        go (inl z) = inl z
        go (inr (e, a, r, q)) =
            let (g, b, d, o, w) = list_of 1 gs e a in
            inr (given (entry e.lot j) (w j (c g b i j l (Memᴰ.cast (sym r) d) s)) ∙ q)

    pub closed_even : ((g : List ℕ) → g ∈ gs → (i j : ℕ) → j < n → i ∈ g → same_lot (f i) (f j) ≡ true → j ∈ g) → Even
    closed_even c i h l s =
        go (goes_over c i (i + 1) (omega arith) (omega arith) s) (goes_over c (i + 1) i (omega arith) (omega arith) (lot_sym (f i) (f (i + 1)) s))
      where
        go : (m i ≡ 0) ⊎ (m (i + 1) ≡ m i) → (m (i + 1) ≡ 0) ⊎ (m i ≡ m (i + 1)) → m i ≡ m (i + 1)
        go (inr a) b = sym a
        go (inl a) (inr b) = b
        go (inl a) (inl b) = a ∙ sym b
