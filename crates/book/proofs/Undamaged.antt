-- A book that was opened without refusal is never found damaged: opening leaves it sound, and each call keeps it so, since its open pars are in step with
-- the history. So no call of a list is refused by 42.
use mathlib.Core.Path.{◌≡◌}
use mathlib.Core.Bool.{true}
use mathlib.Core.List.{List}
use Rattle.book.specs.declared.Values.{Values}
use Rattle.book.specs.declared.Pool.{Pool}
use Rattle.book.specs.Reasons.{is_accepted}
use Rattle.book.specs.Opening.{opening_fine}
use Rattle.book.specs.Soundness.{Sound, is_sound}
use Rattle.book.specs.Checks.{answer_of}
use Rattle.book.specs.History.{History, Fed, at_opening, feed, history}
use Rattle.book.specs.Promise.{State, Put, call_of, after, after_all, fed, opened_state}
use Rattle.book.proofs.Reached.{kept, opened_sound, reached_sound}
use Rattle.book.proofs.Calls.{InStep, opened_in_step, call_in_step, in_step_pars}
use Rattle.book.proofs.Demand3.{Trace, done, next, run, traced_in_step}

-- every list of calls
pub always_sound : (v : Values) (table : List Pool) → opening_fine v table ≡ true → (ps : List Put)
    → is_sound (after_all (opened_state v table) ps).book (after_all (opened_state v table) ps).table ≡ true
always_sound v table e ps =
    reached_sound v table e
    (λ (qs : List Put). in_step_pars v (after_all (opened_state v table) qs) (history v (at_opening v) (fed (opened_state v table) qs))
    (traced_in_step v (opened_in_step v table) (run (opened_state v table) qs)))
    ps

-- every run whose calls keep their contracts
sound_run : (v : Values) {s s'' : State} {h : History} {fs : List Fed} → InStep v s h → Sound s.book s.table → Trace s fs s'' → Sound s''.book s''.table
unfolding after
sound_run v w f done = f
sound_run v {h = h} w f (next {s = s} p a b t r rest) =
    let now : History = feed v h p.body (is_accepted (answer_of (call_of s p))) in
    let w' : InStep v (after s p) now = call_in_step v (call_of s p) h w in
    sound_run v {h = now} (rw (b, t) w') (rw (b, t) (kept (call_of s p) f (in_step_pars v (after s p) now w'))) rest

pub traced_sound : (v : Values) (table : List Pool) → opening_fine v table ≡ true → (s : State) (fs : List Fed) → Trace (opened_state v table) fs s → Sound s.book s.table
traced_sound v table e s fs t = sound_run v (opened_in_step v table) (opened_sound v table e) t
