-- The bytes that a call wrote are told by the outbound numbers before and after it: 43 leaves room for two, so each message that went out has raised the number by one.
use Prim.Native.Nat.{ℕ, ◌+◌, ◌<◌}
use mathlib.Core.Path.{◌≡◌, refl, sym, ◌∙◌}
use mathlib.Core.List.{List}
use mathlib.Core.Bool.{Bool, true, false, cond, ◌||◌}
use native.Mathlib.Omega.{arith}
use lib.ListN.{length}
use lib.Dec.{eqb, leb}
use borrow.Author.Tests.{eq-eqb, ne_eqb, lt-ltb, ltb-false}
use Rattle.lists.proofs.Tests.{clash}
use Rattle.sequence.specs.declared.Outbound.{Outbound}
use Rattle.sequence.specs.Sequence.{outbound_spent, next_outbound}
use Rattle.book.specs.Reasons.{is_silent}
use Rattle.book.specs.Opening.{eleven_digits_max}
use Rattle.book.specs.Soundness.{held_in}
use Rattle.book.specs.Checks.{Call, unsound, soundness_checks, sender_checks, answer_of}
use Rattle.book.specs.Step.{gap_at, before_aa, book_after}
use Rattle.image.specs.Images.{book_words, rest_of, is_image, values_from, book_in}
use Rattle.image.proofs.Looking.{part_at}
use Rattle.image.proofs.Told.{lent_length, image_lent}
use Rattle.calls_words.specs.Calls.{written}
use Rattle.exports_book.specs.Writing.{outbound_in, bytes_out}

or_right : (a b : Bool) → (a || b) ≡ false → b ≡ false
or_right true b e = clash refl e
or_right false b e = e

-- one number more, where one is left
next_one : (o : Outbound) → o.0 < 999999 → (next_outbound o).0 ≡ o.0 + 1
unfolding next_outbound
next_one o h = rw (lt-ltb o.0 999999 h)

module _ (c : Call) where
  abbrev last : Outbound
  last = c.book.values.connection.outbound

  abbrev spent : Bool
  spent = leb eleven_digits_max c.book.values.last_message_id || outbound_spent last

  -- an answer that is not silent comes after 43
  told_numbers : is_silent (answer_of c) ≡ false → spent ≡ false
  unfolding answer_of soundness_checks sender_checks
  told_numbers e = go (unsound c.book (held_in c.book c.table) c.body) refl spent refl
    where
      go : (a : Bool) → unsound c.book (held_in c.book c.table) c.body ≡ a → (b : Bool) → spent ≡ b → b ≡ false
      go true ea b eb = let q : true ≡ false = rw ea at e in clash refl q
      go false ea true eb = rw (ea, eb) at e
      go false ea false eb = refl

  pub bytes_written : bytes_out (is_silent (answer_of c)) last.0 (book_after c).values.connection.outbound.0 ≡ written c
  unfolding bytes_out written book_after
  bytes_written = go (is_silent (answer_of c)) refl
    where
      room : is_silent (answer_of c) ≡ false → last.0 < 999998
      room e = omega (arith, ltb-false 999997 last.0 (or_right (leb eleven_digits_max c.book.values.last_message_id) (outbound_spent last) (told_numbers e)))

      go : (s : Bool) → is_silent (answer_of c) ≡ s
          → ◌≡◌ {A = ℕ} (cond s 0 (cond (eqb (last.0 + 1) (cond s last (next_outbound (before_aa c.book c.body))).0) 64 217)) (cond s 0 (cond (gap_at c.book c.body) 217 64))
      go true e = refl
      go false e = by (gap_at c.book c.body) (room e)
        where
          by : (g : Bool) → last.0 < 999998 → ◌≡◌ {A = ℕ} (cond (eqb (last.0 + 1) (next_outbound (cond g (next_outbound last) last)).0) 64 217) (cond g 217 64)
          by true h =
              let n = next_one last (omega arith) in
              let m : (next_outbound (next_outbound last)).0 ≡ last.0 + 2 = next_one (next_outbound last) (omega arith) ∙ omega arith in
              rw (m, ne_eqb (last.0 + 1) (last.0 + 2) (λ q. omega arith))
          by false h =
              let n = next_one last (omega arith) in
              rw (n, eq-eqb (last.0 + 1) (last.0 + 1) refl)

-- the words of a book say its last outbound number
pub outbound_said : (ws : List ℕ) → is_image ws ≡ true → outbound_in ws ≡ (book_in ws).values.connection.outbound.0
unfolding outbound_in book_in values_from rest_of
outbound_said ws e =
    let l = lent_length ws (image_lent ws e) in
    rw (eq-eqb (length ws) book_words l) (sym (part_at ws 2688 0 52 47 (omega arith) (omega arith)))
