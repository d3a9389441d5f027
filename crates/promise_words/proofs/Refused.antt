-- Demand 1 of a refusal, for a frame call on any words and table: one that is not accepted, for whatever reason, changes no trade, no live pool and no
-- message ID of the book that the words say, and no record of the table.
use Prim.Native.Nat.{ℕ}
use mathlib.Core.Path.{◌≡◌, refl, ap, ◌∙◌}
use mathlib.Core.List.{List}
use mathlib.Core.Bool.{Bool, true, false}
use lib.ListN.{length}
use Rattle.lists.proofs.Tests.{both}
use Rattle.book.specs.declared.Book.{Book}
use Rattle.book.specs.declared.Pool.{Pool}
use Rattle.book.specs.declared.Answer.{Answer}
use Rattle.book.specs.Reasons.{is_accepted, is_silent}
use Rattle.book.specs.Soundness.{Sound, is_sound}
use Rattle.book.specs.Checks.{Call, asked_by, answer_of}
use Rattle.book.specs.Step.{call_with, book_after, table_after}
use Rattle.book.specs.Promise.{after}
use Rattle.book.proofs.Reached.{is_sound_law, kept}
use Rattle.book.proofs.Unsound.{unsound_answer}
use Rattle.book.proofs.Demand3.{refused_keeps}
use Rattle.image.specs.Images.{is_image, book_in}
use Rattle.calls_words.specs.Calls.{is_time, caller_of, callable, words_after, StepsTo, Calls}
use Rattle.promise_words.specs.Runs.{Stored, state_of, answer_at}
use Rattle.promise_words.proofs.Stepping.{words_say}

-- a refused call by value on a sound book leaves one
refused_sound : (c : Call) → is_accepted (answer_of c) ≡ false → Sound c.book c.table → Sound (book_after c) (table_after c)
unfolding book_after table_after
refused_sound c e s = kept c s (rw e s.pars)

-- a silent one leaves the words
silent_words : (ws : List ℕ) (a : Answer) (b : Book) → is_silent a ≡ true → words_after ws a b ≡ ws
unfolding words_after
silent_words ws a b e = rw e

module _ (s : Stored) (body time : List ℕ) (seed : ℕ) (out said ws : List ℕ) (pools : List Pool) (out' said' : List ℕ) (k : Calls s.words s.pools body time seed out said ws pools out' said') where
  abbrev c : Call
  c = call_with (book_in s.words) s.pools body (caller_of time seed) out

  abbrev Keeps : Book → List Pool → Type 0
  Keeps b table =
      (b.values.trades ≡ (book_in s.words).values.trades) × (b.values.last_message_id ≡ (book_in s.words).values.last_message_id)
      × (b.live ≡ (book_in s.words).live) × (table ≡ s.pools)

  same : ws ≡ s.words → pools ≡ s.pools → Keeps (book_in ws) pools
  same ew ep = rw ew (refl, refl, refl, ep)

  made : is_image s.words ≡ true → is_time time ≡ true → is_accepted (answer_of c) ≡ false → Keeps (book_in ws) pools
  unfolding callable after
  made ei et n = go (is_sound (book_in s.words) s.pools) refl
    where
      st : StepsTo (book_in s.words) s.words s.pools body (caller_of time seed) out said ws pools out' said'
      st = k.steps (both (is_image s.words) (is_time time) ei et)

      kept_by : Keeps (book_after c) (table_after c)
      kept_by = refused_keeps (state_of s) (record { body = body; asked = asked_by (caller_of time seed) (length out) }) n

      go : (b : Bool) → is_sound (book_in s.words) s.pools ≡ b → Keeps (book_in ws) pools
      go true e =
          let sound = is_sound_law (book_in s.words) s.pools e in
          let says = words_say s.words s.pools body (caller_of time seed) out ei sound (refused_sound c n sound) in
          let b : book_in ws ≡ book_after c = ap book_in st.image ∙ says.1 in
          rw (b, st.table) kept_by
      go false e =
          same (st.image ∙ silent_words s.words (answer_of c) (book_after c) (ap is_silent (unsound_answer c e))) (st.table ∙ kept_by.3)

  pub words_refused_keep : is_accepted (answer_at s body time seed out) ≡ false → Keeps (book_in ws) pools
  unfolding answer_at
  words_refused_keep = go (is_time time) (is_image s.words) refl refl
    where
      go : (t i : Bool) → is_time time ≡ t → is_image s.words ≡ i → is_accepted (answer_at s body time seed out) ≡ false → Keeps (book_in ws) pools
      go false i et ei n = let r = k.untimed et in same r.image r.table
      go true false et ei n = let r = k.damaged et ei in same r.image r.table
      go true true et ei n = made ei et (rw (et, ei) at n)
