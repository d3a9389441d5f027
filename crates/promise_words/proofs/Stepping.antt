-- One frame call on words: where the words are an image of a book that is sound and in step with the history, they are so after it too, and the book that
-- they then say is the one that the call by value leaves.
use Rattle.std.specs.Prelude.{Err}
use Prim.Native.Nat.{ℕ}
use mathlib.Core.Path.{◌≡◌, refl, sym, ap, ◌∙◌}
use mathlib.Core.List.{List}
use mathlib.Core.Bool.{Bool, true, false, cond, false≢true}
use lib.ListN.{length}
use Rattle.lists.specs.Lists.{pasted}
use Rattle.lists.proofs.Tests.{both}
use Rattle.book.specs.declared.Values.{Values}
use Rattle.book.specs.declared.Book.{Book}
use Rattle.book.specs.declared.Pool.{Pool}
use Rattle.book.specs.declared.Answer.{Answer}
use Rattle.book.specs.declared.Answer.TheVariants.{Accepted, Rejected, Dked}
use Rattle.book.specs.Reasons.{silent, is_accepted, is_silent}
use Rattle.book.specs.Soundness.{Sound, held_in}
use Rattle.book.specs.declared.Caller.{Caller}
use Rattle.book.specs.declared.Reason.TheVariants.{Operator}
use Rattle.book.specs.Checks.{Asked, Call, call, asked_by, numbers_spent, unsound, soundness_checks, sender_checks, answer_to, answer_of}
use Rattle.book.specs.Step.{call_with, book_after, table_after}
use Rattle.book.specs.History.{History, feed}
use Rattle.book.specs.Promise.{Put, call_of, after}
use Rattle.book.proofs.Reached.{kept}
use Rattle.book.proofs.Calls.{InStep, call_in_step, in_step_pars}
use Rattle.image.specs.Images.{trades_words, rest_image, image_of, count_in, is_image, trades_in, values_from, values_in, book_in}
use Rattle.image.specs.Formed.{FormedTrades, FormedRest}
use Rattle.image.proofs.Told.{lent_length, image_lent}
use Rattle.image.proofs.Kept.{whole_image, whole_book, rest_image_law, rest_book}
use Rattle.calls_words.specs.Calls.{is_time, caller_of, callable, words_after, Calls}
use Rattle.promise_words.specs.Runs.{Stored, state_of, answer_at}
use Rattle.promise_words.proofs.Forming.{lent_formed, rest_formed}
use Rattle.promise_words.proofs.Spare.{moved_formed}

-- what holds between two calls
pub record Good (v : Values) (s : Stored) (h : History) : Type 0 where
  pub image : is_image s.words ≡ true
  pub sound : Sound (book_in s.words) s.pools
  pub in_step : InStep v (state_of s) h

-- ---- by value
silent_refused : (a : Answer) → is_silent a ≡ true → is_accepted a ≡ false
silent_refused (Accepted id) e = absurd (false≢true e)
silent_refused (Rejected r) e = refl
silent_refused (Dked r) e = refl

module _ (c : Call) (e : is_silent (answer_of c) ≡ true) where
  pub silent_book : book_after c ≡ c.book
  unfolding book_after
  silent_book = rw (silent_refused (answer_of c) e, e)

  pub silent_table : table_after c ≡ c.table
  unfolding table_after
  silent_table = rw (silent_refused (answer_of c) e)

refused_trades : (c : Call) → is_accepted (answer_of c) ≡ false → (book_after c).values.trades ≡ c.book.values.trades
unfolding book_after
refused_trades c e = rw e

count_stays : (c : Call) → (book_after c).values.lent.trade_count ≡ c.book.values.lent.trade_count
unfolding book_after
count_stays c = refl

-- a call with no room for an answer is refused silently
module _ (b : Book) (table : List Pool) (body : List ℕ) (caller : Caller) where
  abbrev roomless : Call
  roomless = call b table body (asked_by caller 0)

  pub no_room : is_silent (answer_of roomless) ≡ true
  unfolding answer_of soundness_checks sender_checks
  no_room = go (unsound b (held_in b table) body) (numbers_spent b.values body)
    where
      go : (x y : Bool) → is_silent (answer_to roomless (cond x (Err (Operator 42 silent)) (cond y (Err (Operator 43 silent)) (Err (Operator 44 silent))))) ≡ true
      go true y = refl
      go false true = refl
      go false false = refl

-- ---- the words after a call
module _ (ws : List ℕ) (pools : List Pool) (body : List ℕ) (caller : Caller) (out : List ℕ) (image : is_image ws ≡ true) (before : Sound (book_in ws) pools) where
  abbrev c : Call
  c = call_with (book_in ws) pools body caller out

  abbrev Says : List ℕ → Type 0
  Says words = (is_image words ≡ true) × (book_in words ≡ book_after c)

  before_formed : FormedTrades (book_in ws).values.trades (book_in ws).values.lent.trade_count
  unfolding book_in values_from
  before_formed = lent_formed ws (image_lent ws image)

  module _ (sound : Sound (book_after c) (table_after c)) where
    rest : FormedRest (book_after c)
    unfolding book_after book_in values_in values_from
    rest = rest_formed ws (image_lent ws image) (book_after c) (table_after c) refl refl sound

    after_silent : is_silent (answer_of c) ≡ true → Says ws
    after_silent e = (image, sym (silent_book c e))

    formed : is_accepted (answer_of c) ≡ true → FormedTrades (book_after c).values.trades (book_after c).values.lent.trade_count
    unfolding book_after
    formed e = rw e (moved_formed c e before before_formed)

    after_accepted : is_accepted (answer_of c) ≡ true → Says (pasted ws 0 (image_of (book_after c)))
    after_accepted e =
        let long = lent_length ws (image_lent ws image) in
        (whole_image (book_after c) (formed e) rest ws long, whole_book (book_after c) (formed e) rest ws long)

    after_refused : is_accepted (answer_of c) ≡ false → Says (pasted ws trades_words (rest_image (book_after c)))
    unfolding book_in values_from
    after_refused e =
        let same : (book_after c).values.trades ≡ trades_in ws = refused_trades c e in
        let count : (book_after c).values.lent.trade_count ≡ count_in ws = count_stays c in
        (rest_image_law ws (book_after c) image rest same count, rest_book ws (book_after c) image rest same count)

    -- they are an image again, and say the book that the call by value leaves
    pub words_say : Says (words_after ws (answer_of c) (book_after c))
    unfolding words_after
    words_say = go (is_silent (answer_of c)) refl
      where
        told : (y : Bool) → is_accepted (answer_of c) ≡ y → Says (cond y (pasted ws 0 (image_of (book_after c))) (pasted ws trades_words (rest_image (book_after c))))
        told true f = after_accepted f
        told false f = after_refused f

        go : (x : Bool) → is_silent (answer_of c) ≡ x
            → Says (cond x ws (cond (is_accepted (answer_of c)) (pasted ws 0 (image_of (book_after c))) (pasted ws trades_words (rest_image (book_after c)))))
        go true e = after_silent e
        go false e = told (is_accepted (answer_of c)) refl

-- ---- one call of a run
-- a call by value on the book that words say, with the same body and as accepted, leaves the book that the words after it say
pub record Step (s s' : Stored) (body : List ℕ) (accepted : Bool) : Type 0 where
  pub asked : Asked
  pub answer : is_accepted (answer_of (call (book_in s.words) s.pools body asked)) ≡ accepted
  pub book : book_in s'.words ≡ book_after (call (book_in s.words) s.pools body asked)
  pub table : s'.pools ≡ table_after (call (book_in s.words) s.pools body asked)
  pub image : is_image s'.words ≡ true

module _ (v : Values) (s : Stored) (h : History) (g : Good v s h) where
  -- what a call by value leaves is sound
  after_sound : (p : Put) → Sound (book_after (call_of (state_of s) p)) (table_after (call_of (state_of s) p))
  unfolding after
  after_sound p =
      let c : Call = call_of (state_of s) p in
      kept c g.sound (in_step_pars v (after (state_of s) p) (feed v h p.body (is_accepted (answer_of c))) (call_in_step v c h g.in_step))

  pub good_after : (s' : Stored) (body : List ℕ) (accepted : Bool) → Step s s' body accepted → Good v s' (feed v h body accepted)
  good_after s' body accepted st =
      let p : Put = record { body = body; asked = st.asked } in
      record {
        image = st.image;
        sound = rw (st.book, st.table) (after_sound p);
        in_step = rw (st.book, st.table, ← st.answer) (call_in_step v (call_of (state_of s) p) h g.in_step);
      }

  module _ (body time : List ℕ) (seed : ℕ) (out said ws : List ℕ) (pools : List Pool) (out' said' : List ℕ) (k : Calls s.words s.pools body time seed out said ws pools out' said') where
    -- with six time bytes the call by value is the same one
    timed : is_time time ≡ true → Step s (record { words = ws; pools = pools }) body (is_accepted (answer_at s body time seed out))
    unfolding answer_at callable
    timed e =
        let caller : Caller = caller_of time seed in
        let st = k.steps (both (is_image s.words) (is_time time) g.image e) in
        let says = words_say s.words s.pools body caller out g.image g.sound (after_sound (record { body = body; asked = asked_by caller (length out) })) in
        record {
          asked = asked_by caller (length out);
          answer = rw (e, g.image);
          book = ap book_in st.image ∙ says.1;
          table = st.table;
          image = ap is_image st.image ∙ says.0;
        }

    -- with others it moves nothing, as one without room does
    untimed : is_time time ≡ false → Step s (record { words = ws; pools = pools }) body (is_accepted (answer_at s body time seed out))
    unfolding answer_at
    untimed e =
        let caller : Caller = caller_of time seed in
        let r = k.untimed e in
        let quiet = no_room (book_in s.words) s.pools body caller in
        let c : Call = roomless (book_in s.words) s.pools body caller in
        record {
          asked = asked_by caller 0;
          answer = silent_refused (answer_of c) quiet ∙ rw e;
          book = ap book_in r.image ∙ sym (silent_book c quiet);
          table = r.table ∙ sym (silent_table c quiet);
          image = ap is_image r.image ∙ g.image;
        }

    pub step : Step s (record { words = ws; pools = pools }) body (is_accepted (answer_at s body time seed out))
    step = go (is_time time) refl
      where
        go : (b : Bool) → is_time time ≡ b → Step s (record { words = ws; pools = pools }) body (is_accepted (answer_at s body time seed out))
        go true e = timed e
        go false e = untimed e
