-- A frame that is filled from the front, part by part, holds the parts end to end: each part is pasted right after those before it, and the last one ends where the frame ends.
use Rattle.std.proofs.Common.{◌≡◌, sym, ap, ◌∙◌, ℕ, ◌+◌, ◌≤◌, List, ◌++◌, length, length-append, arith}
use Rattle.lists.specs.Lists.{pasted}
use Rattle.lists.proofs.Pasting.{paste_more, paste_whole}
use Rattle.output.specs.Output.{digits_of}
use Rattle.output.proofs.Written.{digits_length}

-- the frame o is o₀ with the parts xs at its front, n elements, if there is room for them
pub record Built (o₀ o xs : List ℕ) (n : ℕ) : Type 0 where
  pub is : n ≤ length o₀ → o ≡ pasted o₀ 0 xs
  pub long : length xs ≡ n

module _ {o₀ : List ℕ} where
  -- the first part, of n elements
  pub first : {o xs ys : List ℕ} (n : ℕ) → o ≡ pasted o₀ 0 ys → ys ≡ xs → length ys ≡ n → Built o₀ o xs n
  first n e q l = record { is = λ _. e ∙ ap (pasted o₀ 0) q; long = sym (ap length q) ∙ l }

  -- one part more, of m elements
  pub part : {o o' xs : List ℕ} {n : ℕ} (m : ℕ) (ys : List ℕ) → Built o₀ o xs n → o' ≡ pasted o n ys → length ys ≡ m → Built o₀ o' (xs ++ ys) (n + m)
  part {o} {o'} {xs} {n} m ys b e l = record {
    is = λ h. e ∙ ap (λ (p : List ℕ). pasted p n ys) (b.is (omega arith)) ∙ paste_more o₀ 0 xs ys n (omega (arith, b.long)) (omega arith);
    long = length-append xs ys ∙ omega (arith, b.long);
  }

  -- a number more
  pub digits : {o o' xs : List ℕ} {n : ℕ} (width value : ℕ) → Built o₀ o xs n → o' ≡ pasted o n (digits_of width value)
      → Built o₀ o' (xs ++ digits_of width value) (n + width)
  digits width value b e = part width (digits_of width value) b e (digits_length width value)

  -- all of the frame is filled
  pub filled : {o xs : List ℕ} {n : ℕ} → Built o₀ o xs n → n ≡ length o₀ → o ≡ xs
  filled {xs = xs} b h = b.is (omega arith) ∙ paste_whole o₀ xs (b.long ∙ h)
