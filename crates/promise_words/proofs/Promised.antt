-- The promise of the calls on words. Open a book on words without refusal, then make any run of frame calls, each on the words and the table that the one
-- before left, refused ones included; words and table may be saved and loaded between any two. Then the words are a book's; demand 3 holds of that book and
-- the table, with the history of the same messages and answers; and both are sound.
use Prim.Native.Nat.{ℕ}
use mathlib.Core.Path.{◌≡◌, refl, ap, subst, ◌∙◌}
use mathlib.Core.List.{List, ◌∷◌}
use mathlib.Core.Bool.{Bool, true, false}
use native.Mathlib.Omega.{arith}
use lib.ListN.{length}
use Rattle.lists.proofs.Tests.{and_left, and_right}
use Rattle.book.specs.declared.Values.{Values}
use Rattle.book.specs.declared.Pool.{Pool}
use Rattle.book.specs.Reasons.{is_accepted}
use Rattle.book.specs.Trades.{trades_of}
use Rattle.book.specs.Opening.{opened, cleared, opening_fine}
use Rattle.book.specs.Soundness.{Sound}
use Rattle.book.specs.Checks.{call, answer_of}
use Rattle.book.specs.History.{History, Fed, at_opening, feed, history}
use Rattle.book.specs.Promise.{State, opened_state, Demand3}
use Rattle.book.proofs.Reached.{opened_sound}
use Rattle.book.proofs.Calls.{opened_in_step}
use Rattle.book.proofs.Demand3 as traces
use Rattle.book.proofs.Demand3.{Trace, traced, traced_count}
use Rattle.image.specs.Images.{is_lent, is_image, count_in, trades_in, values_from, values_in, book_in}
use Rattle.image.specs.Formed.{FormedTrades, FormedRest}
use Rattle.image.proofs.Told.{lent_length}
use Rattle.image.proofs.Kept.{whole_image, whole_book}
use Rattle.calls_words.specs.Opening.{openable, Opening}
use Rattle.promise_words.specs.Runs.{Stored, state_of, answer_at, WordsRun, done, next}
use Rattle.promise_words.proofs.Forming.{lent_formed, rest_formed}
use Rattle.promise_words.proofs.Spare.{opened_formed}
use Rattle.promise_words.proofs.Stepping.{Good, Step, step, good_after}

-- ---- a run is one by value, and what holds before it holds after it
traced_step : (s s' : Stored) {last : State} {fs : List Fed} (body : List ℕ) (accepted : Bool) → Step s s' body accepted → Trace (state_of s') fs last
    → Trace (state_of s) (record { body = body; is_accepted = accepted } ∷ fs) last
traced_step s s' {last} {fs} body accepted st t =
    subst (λ (b : Bool). Trace (state_of s) (record { body = body; is_accepted = b } ∷ fs) last) st.answer
    (traces.next (record { body = body; asked = st.asked }) (answer_of (call (book_in s.words) s.pools body st.asked)) st.book st.table refl t)

run_traced : (v : Values) {s s'' : Stored} {h : History} {fs : List Fed} → Good v s h → WordsRun s fs s'' → Trace (state_of s) fs (state_of s'') × Good v s'' (history v h fs)
unfolding history
run_traced v g done = (traces.done, g)
run_traced v {h = h} g (next {s = s} {fs = fs} body time seed out said ws pools out' said' k rest) =
    let accepted : Bool = is_accepted (answer_at s body time seed out) in
    let s' : Stored = record { words = ws; pools = pools } in
    let st : Step s s' body accepted = step v s h g body time seed out said ws pools out' said' k in
    let more = run_traced v {h = feed v h body accepted} (good_after v s h g s' body accepted st) rest in
    (traced_step s s' body accepted st more.0, more.1)

-- ---- an opening that passes
module _ (ws : List ℕ) (pools : List Pool) (ws' : List ℕ) (pools' : List Pool) (r : ℕ) (o : Opening ws pools ws' pools' r) (zero : r ≡ 0) where
  abbrev v : Values
  v = values_in ws

  abbrev start : Stored
  start = record { words = ws'; pools = pools' }

  is_openable : openable ws pools ≡ true
  is_openable = go (openable ws pools) refl
    where
      go : (b : Bool) → openable ws pools ≡ b → openable ws pools ≡ true
      go true e = e
      go false e = absurd (omega (arith, zero, (o.refuses e).code))

  lent : is_lent ws ≡ true
  unfolding openable
  lent = and_left (is_lent ws) (opening_fine v pools) is_openable

  fine : opening_fine v pools ≡ true
  unfolding openable
  fine = and_right (is_lent ws) (opening_fine v pools) is_openable

  sound : Sound (opened v) (cleared pools)
  sound = opened_sound v pools fine

  trades : FormedTrades (opened v).values.trades (opened v).values.lent.trade_count
  unfolding opened values_in values_from
  trades = opened_formed (trades_in ws) (count_in ws) (lent_formed ws lent)

  rest : FormedRest (opened v)
  unfolding opened
  rest = rest_formed ws lent (opened v) (cleared pools) refl refl sound

  said : book_in ws' ≡ opened v
  said = ap book_in (o.passes is_openable).image ∙ whole_book (opened v) trades rest ws (lent_length ws lent)

  begins : state_of start ≡ opened_state v pools
  begins = λ i. record { book = said i; table = (o.passes is_openable).zeros i }

  first : Good v start (at_opening v)
  first =
      record {
        image = ap is_image (o.passes is_openable).image ∙ whole_image (opened v) trades rest ws (lent_length ws lent);
        sound = rw (said, (o.passes is_openable).zeros) sound;
        in_step = rw (said, (o.passes is_openable).zeros) (opened_in_step v pools);
      }

  module _ (s : Stored) (fs : List Fed) (run : WordsRun start fs s) where
    good : Good v s (history v (at_opening v) fs)
    good = (run_traced v first run).1

    pub words_trace : Trace (opened_state v pools) fs (state_of s)
    words_trace = subst (λ (x : State). Trace x fs (state_of s)) begins (run_traced v first run).0

    -- the words are a book's
    pub words_image : is_image s.words ≡ true
    words_image = good.image

    -- demand 3 of that book and the table
    pub words_demand3 : Demand3 v (state_of s) fs
    words_demand3 = traced v pools fine (state_of s) fs words_trace

    -- it has opening's trades
    pub words_count : length (trades_of (book_in s.words).values) ≡ length (trades_of v)
    words_count = traced_count v pools fine (state_of s) fs words_trace

    -- both are sound
    pub words_sound : Sound (book_in s.words) s.pools
    words_sound = good.sound
