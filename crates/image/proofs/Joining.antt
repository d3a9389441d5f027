-- A book as it is written: the rows of the trades so far, joined, stand at the front, and the words after the trades end it.
use mathlib.Core.Path.{◌≡◌, refl, sym, ap, ◌∙◌}
use mathlib.Core.List.{List, [], ◌∷◌, ◌++◌, append-nil}
use mathlib.Core.Bool.{true}
use Prim.Native.Nat.{ℕ, ◌+◌, ◌*◌, ◌≤◌, ◌<◌}
use native.Mathlib.Omega.{arith}
use lib.ListN.{length, get_or, take}
use lib.Seq.{take_all}
use Rattle.std.specs.List.{flat_map}
use Rattle.std.proofs.lemmas.List.{take_more}
use Rattle.std.proofs.lemmas.List.Concat.{flat_map-append}
use Rattle.lists.specs.Lists.{within, pasted}
use Rattle.lists.proofs.Parts.{in_within}
use Rattle.lists.proofs.Pasting.{paste_in}
use Rattle.acknowledgment.proofs.Building.{Built, first, part}
use Rattle.book.specs.declared.Book.{Book}
use Rattle.image.specs.Images.{trades_words, rest_words, book_words, trade_image, rest_image, image_of}

module _ {A : Type 0} (f : A → List ℕ) where
  join_turn : (xs : List A) (i : ℕ) (d : A) → i < length xs → flat_map f (take (i + 1) xs) ≡ flat_map f (take i xs) ++ f (get_or xs i d)
  join_turn xs i d h =
      ap (flat_map f) (take_more xs i d h) ∙ flat_map-append f (take i xs) (get_or xs i d ∷ [])
      ∙ ap (λ (l : List ℕ). flat_map f (take i xs) ++ l) (append-nil (f (get_or xs i d)))

  module _ (xs : List A) (o₀ : List ℕ) where
    abbrev pub Joining : List ℕ → ℕ → Type 0
    Joining o i = Built o₀ o (flat_map f (take i xs)) (i * 42)

    pub joining_none : Joining o₀ 0
    joining_none =
        let w : within o₀ 0 (length {A = ℕ} []) ≡ true = in_within o₀ 0 0 (omega arith) (omega arith) in
        record { is = λ h. sym (paste_in o₀ 0 [] w); long = refl }

    pub joining_more : (o o' : List ℕ) (i : ℕ) → Joining o i → (row : List ℕ) (d : A) → row ≡ f (get_or xs i d) → length row ≡ 42 → o' ≡ pasted o (i * 42) row → i < length xs → Joining o' (i + 1)
    joining_more o o' i inv row d q l e h =
        let b = part 42 row inv e l in
        let w : flat_map f (take i xs) ++ row ≡ flat_map f (take (i + 1) xs) = ap (λ (r : List ℕ). flat_map f (take i xs) ++ r) q ∙ sym (join_turn xs i d h) in
        record {
          is = λ k. b.is (omega arith) ∙ ap (pasted o₀ 0) w;
          long = sym (ap length w) ∙ b.long ∙ omega arith;
        }

    pub joining_done : (o : List ℕ) (i n : ℕ) → Joining o i → i ≡ n → length xs ≡ n → Built o₀ o (flat_map f xs) (n * 42)
    joining_done o i n inv e l =
        let w : flat_map f (take i xs) ≡ flat_map f xs = ap (flat_map f) (take_all i xs (omega arith)) in
        record { is = λ k. inv.is (omega arith) ∙ ap (pasted o₀ 0) w; long = sym (ap length w) ∙ inv.long ∙ ap (λ (k : ℕ). k * 42) e }

-- a part more of a row, which is zs by another name
pub more : {o₀ o o' xs ys zs : List ℕ} {n : ℕ} (m : ℕ) → Built o₀ o xs n → o' ≡ pasted o n ys → ys ≡ zs → length ys ≡ m → Built o₀ o' (xs ++ zs) (n + m)
more {o = o} {n = n} m b e q l = part m _ b (e ∙ ap (pasted o n) q) (sym (ap length q) ∙ l)

-- the trades' words and then those of the rest are the image, where there is room for it
pub image_written : (b : Book) (o₀ o o' rest : List ℕ) → book_words ≤ length o₀
    → o ≡ pasted o₀ 0 (flat_map trade_image b.values.trades) → length (flat_map trade_image b.values.trades) ≡ trades_words
    → rest ≡ rest_image b → length rest ≡ rest_words → o' ≡ pasted o trades_words rest → o' ≡ pasted o₀ 0 (image_of b)
unfolding image_of
image_written b o₀ o o' rest h e n q m f =
    (part rest_words rest (first trades_words e refl n) f m).is h ∙ ap (λ (r : List ℕ). pasted o₀ 0 (flat_map trade_image b.values.trades ++ r)) q
