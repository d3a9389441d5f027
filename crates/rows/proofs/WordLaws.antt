-- The words of matched fields: they are equal where the fields are, and zeros where the fields are; numbers joined bit by bit are zero where each of them is.
use Rattle.std.proofs.Common.{◌≡◌, ℕ, zero, suc, Bool, true, false, ◌&&◌, eqb, List, [], ◌∷◌, length, get_or, sym, refl, ap, ◌∙◌, arith, eq-eqb, ne_eqb, eqb-true}
use Rattle.std.proofs.lemmas.Nat.{le_or_l}
use Rattle.std.specs.Int.Bits.{bit_or}
use mathlib.Core.Bool.{false≢true, and_assoc}
use Rattle.lists.specs.Lists.{same}
use Rattle.lists.proofs.Tables.{table_of_law}
use Rattle.lists.proofs.Tests.{same_refl, and_left, and_right}
use Rattle.layout.specs.declared.Matched.{Matched}
use Rattle.book.specs.declared.Pool.{Pool}
use Rattle.book.specs.Records.{no_pool, same_fields}
use Rattle.book.specs.Soundness.{is_none}
use Rattle.book.proofs.Matched.{fields_equal}
use Rattle.rows.specs.Words.{first_bytes, next_bytes, last_bytes, words_of, fields_by, fields_in}

eqb_same : (n : ℕ) → eqb n n ≡ true
eqb_same n = eq-eqb n n refl

pub or_zero : (a b : ℕ) → eqb (bit_or a b) 0 ≡ (eqb a 0 && eqb b 0)
or_zero zero b = refl
or_zero (suc a) b = ne_eqb (bit_or (suc a) b) 0 (λ e. omega (arith, e, le_or_l (suc a) b)) ∙ sym (ap (λ (t : Bool). t && eqb b 0) (ne_eqb (suc a) 0 (λ e. omega (arith, e))))

-- fields that have their widths are made of their bytes
pub fields_back : (f : Matched) → length f.lot ≡ 6 → length f.pool ≡ 7 → length f.original ≡ 9 → fields_by (first_bytes f) (next_bytes f) (last_bytes f) ≡ f
fields_back f l m n = rw (table_of_law 0 f.lot 6 l, table_of_law 0 f.pool 7 m, table_of_law 0 f.original 9 n)

-- whether the words of two are equal, one by one
abbrev pub same_words : List ℕ → List ℕ → Bool
same_words us vs = eqb (get_or us 0 0) (get_or vs 0 0) && (eqb (get_or us 1 0) (get_or vs 1 0) && eqb (get_or us 2 0) (get_or vs 2 0))

words_refl : (us : List ℕ) → same_words us us ≡ true
words_refl us = rw (eqb_same (get_or us 0 0), eqb_same (get_or us 1 0), eqb_same (get_or us 2 0))

fields_refl : (f : Matched) → same_fields f f ≡ true
fields_refl f = rw (same_refl f.lot, same_refl f.pool, same_refl f.original)

module _ (us vs : List ℕ) (f g : Matched) (u : us ≡ words_of f) (v : vs ≡ words_of g) (back : fields_in us ≡ f) (again : fields_in vs ≡ g) where
  equal : same_words us vs ≡ true → f ≡ g
  unfolding fields_in
  equal e =
      let rest = and_right (eqb (get_or us 0 0) (get_or vs 0 0)) (eqb (get_or us 1 0) (get_or vs 1 0) && eqb (get_or us 2 0) (get_or vs 2 0)) e in
      let a = eqb-true (get_or us 0 0) (get_or vs 0 0) (and_left (eqb (get_or us 0 0) (get_or vs 0 0)) (eqb (get_or us 1 0) (get_or vs 1 0) && eqb (get_or us 2 0) (get_or vs 2 0)) e) in
      let b = eqb-true (get_or us 1 0) (get_or vs 1 0) (and_left (eqb (get_or us 1 0) (get_or vs 1 0)) (eqb (get_or us 2 0) (get_or vs 2 0)) rest) in
      let c = eqb-true (get_or us 2 0) (get_or vs 2 0) (and_right (eqb (get_or us 1 0) (get_or vs 1 0)) (eqb (get_or us 2 0) (get_or vs 2 0)) rest) in
      sym back ∙ rw (a, b, c) again

  -- the words are equal just where the fields are
  pub words_same : same_words us vs ≡ same_fields f g
  words_same = go (same_words us vs) refl (same_fields f g) refl
    where
      go : (p : Bool) → same_words us vs ≡ p → (q : Bool) → same_fields f g ≡ q → p ≡ q
      go true e true h = refl
      go true e false h = absurd (false≢true (sym h ∙ ap (same_fields f) (sym (equal e)) ∙ fields_refl f))
      go false e true h =
          let same = u ∙ ap words_of (fields_equal f g h) ∙ sym v in
          absurd (false≢true (sym e ∙ ap (same_words us) (sym same) ∙ words_refl us))
      go false e false h = refl

moved : (a b c x y z r : Bool) → (a && (b && c)) ≡ (x && (y && z)) → (a && (b && (c && r))) ≡ (x && (y && (z && r)))
moved a b c x y z r e = sym (simp and_assoc) ∙ ap (λ (t : Bool). t && r) e ∙ simp and_assoc

-- a record has no bit just where it is zeros
pub bits_none : (p : Pool) (us : List ℕ) → us ≡ words_of p.matched → fields_in us ≡ p.matched
    → eqb (bit_or (bit_or (bit_or (bit_or (bit_or (bit_or (bit_or (bit_or p.message p.ordinal) p.trade) (get_or us 0 0)) (get_or us 1 0)) (get_or us 2 0)) p.current) p.kind) p.millions) 0 ≡ is_none p
unfolding words_of fields_in
bits_none p us u back =
    simp (or_zero, and_assoc)
    (ap (λ (t : Bool). eqb p.message 0 && (eqb p.ordinal 0 && (eqb p.trade 0 && t)))
    (moved (eqb (get_or us 0 0) 0) (eqb (get_or us 1 0) 0) (eqb (get_or us 2 0) 0) (same p.matched.lot no_pool.matched.lot) (same p.matched.pool no_pool.matched.pool) (same p.matched.original no_pool.matched.original) (eqb p.current 0 && (eqb p.kind 0 && eqb p.millions 0))
    (words_same us (0 ∷ 0 ∷ 0 ∷ []) p.matched no_pool.matched u refl back refl)))
