-- A client that is refused with 41 or 42 can ask which rule is broken: one is named exactly where the number is given.
--     opening_named    an opening on words is refused exactly where the rule of `rhoikandra_opening_fault` is not 0
--     book_named       a frame call with six time bytes is answered with 42 exactly where that of `rhoikandra_book_fault` is not 0
use Prim.Native.Nat.{ℕ}
use native.Mathlib.Omega.{arith}
use mathlib.Core.Path.{◌≡◌, refl, sym, ap, ◌∙◌}
use mathlib.Core.List.{List}
use mathlib.Core.Bool.{Bool, true, false, not, ◌&&◌}
use lib.ListN.{length, get_or}
use lib.Dec.{eqb}
use borrow.Author.Tests.{eq-eqb, ne_eqb}
use Rattle.book.specs.declared.Pool.{Pool}
use Rattle.book.specs.Reasons.{number_of, code_of, book_unsound}
use Rattle.book.specs.Soundness as soundness
use Rattle.book.specs.Checks.{Call, answer_of}
use Rattle.book.specs.Step.{call_with}
use Rattle.book.proofs.Unsound.{unsound_answer}
use Rattle.image.specs.Images.{is_image, book_in}
use Rattle.std.specs.Prelude.{Option, Some, None}
use Rattle.fault.specs.declared.Fault.{Fault}
use Rattle.fault.specs.Rules.{is_sound}
use Rattle.fault.proofs.Numbered.{numbered, by_number, test_numbered, or_numbered, cond_same, opening_numbered, book_numbered}
use Rattle.fault.proofs.Exactly.{tested, in_order_law, opening_exact, book_exact}
use Rattle.calls_words.specs.Calls.{is_time, caller_of}
use Rattle.calls_words.specs.Opening.{openable, Opening}
use Rattle.calls_words.specs.Faults.{opening_fault_in, book_fault_in, fault_numbers}
use Rattle.promise_words.specs.Runs.{Stored, answer_at}
use Rattle.promise_words.proofs.Undamaged.{sound_undamaged}

-- the number of the rule that is written, of two
abbrev pub rule_told : Option Fault → ℕ
rule_told f = get_or (fault_numbers f) 0 0

as_written : (f : Option Fault) → numbered f ≡ true → eqb (rule_told f) 0 ≡ is_sound f
unfolding fault_numbers
as_written None e = by_number None e
as_written (Some f) e = by_number (Some f) e

-- ---- 41
opening_exact_in : (ws : List ℕ) (pools : List Pool) → eqb (rule_told (opening_fault_in ws (length pools))) 0 ≡ openable ws pools
unfolding opening_fault_in openable
opening_exact_in ws pools =
    as_written (opening_fault_in ws (length pools)) (simp (or_numbered, test_numbered, cond_same, opening_numbered)) ∙ simp (in_order_law, tested, opening_exact)

pub opening_named : (ws : List ℕ) (pools : List Pool) (ws' : List ℕ) (pools' : List Pool) (r : ℕ) → Opening ws pools ws' pools' r → eqb r 0 ≡ eqb (rule_told (opening_fault_in ws (length pools))) 0
opening_named ws pools ws' pools' r o = go (openable ws pools) refl
  where
    go : (b : Bool) → openable ws pools ≡ b → eqb r 0 ≡ eqb (rule_told (opening_fault_in ws (length pools))) 0
    go true e = eq-eqb r 0 (o.passes e).code ∙ sym (opening_exact_in ws pools ∙ e)
    go false e = ne_eqb r 0 (λ z. omega (arith, (o.refuses e).code, z)) ∙ sym (opening_exact_in ws pools ∙ e)

-- ---- 42
book_exact_in : (ws : List ℕ) (pools : List Pool) → eqb (rule_told (book_fault_in ws pools)) 0 ≡ (is_image ws && soundness.is_sound (book_in ws) pools)
unfolding book_fault_in
book_exact_in ws pools =
    as_written (book_fault_in ws pools) (simp (or_numbered, test_numbered, cond_same, book_numbered)) ∙ simp (in_order_law, tested, book_exact)

module _ (s : Stored) (body time : List ℕ) (seed : ℕ) (out : List ℕ) (timed : is_time time ≡ true) where
  abbrev made : Call
  made = call_with (book_in s.words) s.pools body (caller_of time seed) out

  abbrev Answers : Bool → Type 0
  Answers b = eqb (code_of (answer_at s body time seed out)) (number_of book_unsound) ≡ b

  no_image : is_image s.words ≡ false → Answers true
  unfolding answer_at
  no_image e = rw (timed, e)

  as_made : is_image s.words ≡ true → answer_at s body time seed out ≡ answer_of made
  unfolding answer_at
  as_made e = rw (timed, e)

  damaged : is_image s.words ≡ true → soundness.is_sound (book_in s.words) s.pools ≡ false → Answers true
  damaged e f = eq-eqb (code_of (answer_at s body time seed out)) (number_of book_unsound) (ap code_of (as_made e ∙ unsound_answer made f))

  whole : is_image s.words ≡ true → soundness.is_sound (book_in s.words) s.pools ≡ true → Answers false
  whole e f = ne_eqb (code_of (answer_at s body time seed out)) (number_of book_unsound) (λ z. sound_undamaged made f (ap code_of (sym (as_made e)) ∙ z))

  pub book_named : eqb (code_of (answer_at s body time seed out)) (number_of book_unsound) ≡ not (eqb (rule_told (book_fault_in s.words s.pools)) 0)
  book_named = go (is_image s.words) refl (soundness.is_sound (book_in s.words) s.pools) refl
    where
      go : (a : Bool) → is_image s.words ≡ a → (b : Bool) → soundness.is_sound (book_in s.words) s.pools ≡ b → Answers (not (eqb (rule_told (book_fault_in s.words s.pools)) 0))
      go true e true f =
          let both : (is_image s.words && soundness.is_sound (book_in s.words) s.pools) ≡ true = rw (e, f) in
          whole e f ∙ sym (ap not (book_exact_in s.words s.pools ∙ both))
      go true e false f =
          let both : (is_image s.words && soundness.is_sound (book_in s.words) s.pools) ≡ false = rw (e, f) in
          damaged e f ∙ sym (ap not (book_exact_in s.words s.pools ∙ both))
      go false e b f =
          let both : (is_image s.words && soundness.is_sound (book_in s.words) s.pools) ≡ false = rw e in
          no_image e ∙ sym (ap not (book_exact_in s.words s.pools ∙ both))
