-- Demand 3. Open a book without refusal, then put any list of frame calls to it, refused ones included. After them, for each trade: its open par is its
-- opening par less the weights of the lots that accepted messages brought to it and that none took off; it lies between zero and the opening par; no lot was
-- taken off twice: every lot that an accepted message of the list takes off, and every pool that it lists, was brought by an earlier one and taken off by none
-- between them; and its standing good millions are those that accepted ONs brought less those that accepted DKs took off. What was brought and taken off
-- is read from the messages and from which of them were accepted, by a history that never sees a book or a table.
use native.Mathlib.Omega.{arith}
use mathlib.Core.Path.{◌≡◌, refl, sym, ap, subst, ◌∙◌}
use mathlib.Core.Bool.{true, false}
use mathlib.Core.List.{List, [], ◌∷◌, ◌++◌, nil≢cons, head-eq_of_cons-eq, tail-eq_of_cons-eq}
use lib.ListN.{length}
use Rattle.lists.proofs.Tests.{◌∈◌}
use Rattle.book.specs.declared.Values.{Values}
use Rattle.book.specs.declared.Pool.{Pool}
use Rattle.book.specs.declared.Answer.{Answer}
use Rattle.book.specs.Reasons.{is_accepted}
use Rattle.book.specs.Records.{Fields}
use Rattle.book.specs.Messages.{listed}
use Rattle.book.specs.Trades.{trades_of}
use Rattle.book.specs.Opening.{opening_fine}
use Rattle.book.specs.Checks.{answer_of}
use Rattle.book.specs.Step.{book_after, table_after}
use Rattle.book.specs.History.{Brought, History, Fed, at_opening, feed, history, takes_off}
use Rattle.book.specs.Promise.{State, Put, call_of, after, after_all, fed, opened_state, Source, Demand3}
use Rattle.book.proofs.Moving.{same_count}
use Rattle.book.proofs.Calls.{InStep, opened_in_step, call_in_step, in_step_millions, taken_stands, listed_source}

-- ---- runs: each call keeps its contract, however it came about; what the history is fed by them stands between the first state and the last

pub data Trace : State → List Fed → State → Type 0 where
  done : {s : State} → Trace s [] s
  next : {s s' s'' : State} {fs : List Fed} (p : Put) (a : Answer)
      → s'.book ≡ book_after (call_of s p) → s'.table ≡ table_after (call_of s p) → a ≡ answer_of (call_of s p)
      → Trace s' fs s'' → Trace s (record { body = p.body; is_accepted = is_accepted a } ∷ fs) s''

-- a list of calls is such a run
pub run : (s : State) (ps : List Put) → Trace s (fed s ps) (after_all s ps)
unfolding after after_all fed
run s [] = done
run s (p ∷ ps) = next p (answer_of (call_of s p)) refl refl refl (run (after s p) ps)

-- one call keeps book and history in step
next_in_step : (v : Values) (s s' : State) (h : History) → InStep v s h → (p : Put) (a : Answer)
    → s'.book ≡ book_after (call_of s p) → s'.table ≡ table_after (call_of s p) → a ≡ answer_of (call_of s p) → InStep v s' (feed v h p.body (is_accepted a))
next_in_step v s s' h w p a b t r = rw (b, t, r) (call_in_step v (call_of s p) h w)

-- and so does a run
pub traced_in_step : (v : Values) {s s'' : State} {h : History} {fs : List Fed} → InStep v s h → Trace s fs s'' → InStep v s'' (history v h fs)
unfolding history
traced_in_step v w done = w
traced_in_step v {h = h} w (next {s = s} {s' = s'} p a b t r rest) = traced_in_step v (next_in_step v s s' h w p a b t r) rest

-- the call that fed a history something, with the state before it, in step with what was fed before
record Point (v : Values) (h : History) (f : Fed) : Type 0 where
  state : State
  put : Put
  in_step : InStep v state h
  body : put.body ≡ f.body
  accepted : is_accepted (answer_of (call_of state put)) ≡ f.is_accepted

-- every split of a run has such a call
point : (v : Values) {s s'' : State} {h : History} {fs : List Fed} → InStep v s h → Trace s fs s''
    → (earlier later : List Fed) (f : Fed) → fs ≡ earlier ++ (f ∷ later) → Point v (history v h earlier) f
unfolding history
point v w done [] later f e = absurd (nil≢cons e)
point v w done (x ∷ earlier) later f e = absurd (nil≢cons e)
point v w (next {s = s} p a b t r rest) [] later f e =
    record { state = s; put = p; in_step = w; body = ap (λ (g : Fed). g.body) (head-eq_of_cons-eq e); accepted = ap is_accepted (sym r) ∙ ap (λ (g : Fed). g.is_accepted) (head-eq_of_cons-eq e) }
point v {h = h} w (next {s = s} {s' = s'} p a b t r rest) (x ∷ earlier) later f e =
    subst (λ (g : Fed). Point v (history v (feed v h g.body g.is_accepted) earlier) f) (head-eq_of_cons-eq e)
    (point v (next_in_step v s s' h w p a b t r) rest earlier later f (tail-eq_of_cons-eq e))

-- what such a call takes off stood, where it was accepted
point_taken : (v : Values) (h : History) (f : Fed) → Point v h f → f.is_accepted ≡ true → (g : Brought) → g ∈ h.lots → takes_off f.body g ≡ true → g.offs ≡ 0
point_taken v h f q a g m e =
    taken_stands v (call_of q.state q.put) h q.in_step (q.accepted ∙ a) g m (rw q.body e)

-- and what it lists was brought
point_source : (v : Values) (h : History) (f : Fed) → Point v h f → f.is_accepted ≡ true → (pool : Fields) → pool ∈ listed f.body → Source h.lots f.body pool
point_source v h f q a pool m =
    rw q.body at (listed_source v (call_of q.state q.put) h q.in_step (q.accepted ∙ a) pool (rw q.body m))

-- ---- the promise for every run from an accepted opening

module _ (v : Values) (table : List Pool) (is_opened : opening_fine v table ≡ true) (s : State) (fs : List Fed) (run : Trace (opened_state v table) fs s) where
  in_step_law : InStep v s (history v (at_opening v) fs)
  in_step_law = traced_in_step v (opened_in_step v table) run

  point_of : (earlier later : List Fed) (f : Fed) → fs ≡ earlier ++ (f ∷ later) → Point v (history v (at_opening v) earlier) f
  point_of = point v (opened_in_step v table) run

  pub traced : Demand3 v s fs
  traced =
      record {
        history_sum = in_step_law.pars;
        bounded = λ t lt. omega (arith, in_step_law.pars t lt);
        once = λ g m. (in_step_law.lots.fine g m).once;
        taken_stood = λ earlier later f e a. point_taken v (history v (at_opening v) earlier) f (point_of earlier later f e) a;
        listed_brought = λ earlier later f e a. point_source v (history v (at_opening v) earlier) f (point_of earlier later f e) a;
        millions = in_step_millions v s (history v (at_opening v) fs) in_step_law;
      }

  -- and the trades are as many as were opened
  pub traced_count : length (trades_of s.book.values) ≡ length (trades_of v)
  traced_count = same_count v (trades_of s.book.values) in_step_law.terms

-- ---- the promise for every list of calls

pub demand3 : (v : Values) (table : List Pool) → opening_fine v table ≡ true → (ps : List Put)
    → Demand3 v (after_all (opened_state v table) ps) (fed (opened_state v table) ps)
demand3 v table o ps = traced v table o (after_all (opened_state v table) ps) (fed (opened_state v table) ps) (run (opened_state v table) ps)

-- a refused call moves no trade, no live pool and no message ID: trades, last ID, live count and table are as they were
pub refused_keeps : (s : State) (p : Put) → is_accepted (answer_of (call_of s p)) ≡ false
    → ((after s p).book.values.trades ≡ s.book.values.trades) × ((after s p).book.values.last_message_id ≡ s.book.values.last_message_id)
    × ((after s p).book.live ≡ s.book.live) × ((after s p).table ≡ s.table)
unfolding after book_after table_after
refused_keeps s p e = (rw e, rw e, rw e, rw e)
