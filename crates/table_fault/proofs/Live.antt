-- The live records, of which a table may have fewer than its book says, and the records after them.
use Rattle.std.proofs.Common.{◌≡◌, ℕ, ◌≤◌, min, List, length, take, drop, sym, ◌∙◌, inl, inr, arith, take_all}
use Rattle.std.proofs.lemmas.Bool.{cases_lt}
use lib.ListN.{drop_of_length-le}
use Rattle.fault.specs.Rules.{each}
use Rattle.fault.specs.Faults.{zeros_fault}
use Rattle.book.specs.declared.Pool.{Pool}

module _ (n : ℕ) (t : List Pool) where
  pub live_is : take (min n (length t)) t ≡ take n t
  live_is = elim (cases_lt (length t) n) [
    | inl less ↦
        let m : min n (length t) ≡ length t = omega arith in
        rw m (take_all (length t) t (omega arith) ∙ sym (take_all n t (omega arith)))
    | inr enough ↦
        let m : min n (length t) ≡ n = omega arith in
        rw m
  ]

  pub zeros_are : (k : ℕ) → k ≡ min n (length t) → each zeros_fault k (drop k t) ≡ each zeros_fault n (drop n t)
  zeros_are k e = elim (cases_lt (length t) n) [
    | inl less ↦
        let a : length t ≤ k = omega arith in
        let b : length t ≤ n = omega arith in
        rw (drop_of_length-le t a, drop_of_length-le t b)
    | inr enough ↦
        let m : k ≡ n = omega arith in
        rw m
  ]
