-- A day on its way: the frames that are left lead from it to where all frames of the tape lead from its start.
use Rattle.std.proofs.Common.{◌≡◌, refl, ap, ◌∙◌, ℕ, ◌+◌, ◌≤◌, List, [], ◌∷◌, map, length, Bool, true, false, cond, arith}
use Rattle.framing.specs.declared.Frame.{Frame}
use Rattle.framing.specs.Following.{frames_of}
use Rattle.book.specs.declared.Book.{Book}
use Rattle.book.specs.declared.Pool.{Pool}
use Rattle.book.specs.Reasons.{is_accepted}
use Rattle.book.specs.Checks.{Call, answer_of, room_least, asked_by}
use Rattle.book.specs.Step.{book_after, table_after}
use Rattle.book.specs.Promise.{State, Put, call_of, after, after_all, fed}
use Rattle.calls.specs.declared.Stepped.{Stepped}
use Rattle.calls.specs.Calls.{Framed}
use Rattle.day.specs.declared.Day.{Day}
use Rattle.day.specs.Tape.{body_at, bodies_of, put_of, puts_of, midnight}
use Rattle.day.specs.Days.{state_of, accepted_among, others_among, Passes}

-- the calls of some frames
abbrev pub calls_of : List ℕ → List Frame → List Put
calls_of tape fs = map put_of (map (body_at tape) fs)

pub record OnWay (start : State) (tape : List ℕ) (d : Day) (pools : List Pool) (fs : List Frame) : Type 0 where
  pub state : after_all (state_of d.book pools) (calls_of tape fs) ≡ after_all start (puts_of tape)
  pub accepted : d.accepted + accepted_among (fed (state_of d.book pools) (calls_of tape fs)) ≡ accepted_among (fed start (puts_of tape))
  pub others : d.others + others_among (fed (state_of d.book pools) (calls_of tape fs)) ≡ others_among (fed start (puts_of tape))
  pub few : d.accepted + d.others + length fs ≤ length tape

-- a frame is accepted or one of the others
one : (b : Bool) → cond b 1 0 + cond b 0 1 ≡ 1
one true = refl
one false = refl

-- before the first frame
pub begins : (b : Book) (pools : List Pool) (tape : List ℕ) (fs : List Frame) → fs ≡ frames_of tape → length fs ≤ length tape
    → OnWay (state_of b pools) tape (record { book = b; accepted = 0; others = 0 }) pools fs
unfolding puts_of bodies_of
begins b pools tape fs e few = rw e (record { state = refl; accepted = omega arith; others = omega arith; few = omega (arith, few, ap length e) })

-- after the last one
pub ends : (b : Book) (pools : List Pool) (tape : List ℕ) (d : Day) (pools' : List Pool) (fs : List Frame) → OnWay (state_of b pools) tape d pools' fs → fs ≡ [] → Passes b pools tape d pools'
unfolding after_all fed
ends b pools tape d pools' fs w e =
    let last : OnWay (state_of b pools) tape d pools' [] = rw e at w in
    record { state = last.state; accepted = omega (arith, last.accepted); others = omega (arith, last.others) }

-- a frame call takes a day one frame further: its book, and one more among the accepted or the others
module _ (start : State) (tape : List ℕ) (d : Day) (pools : List Pool) (gone : List Frame) (f : Frame) (fs : List Frame) (w : OnWay start tape d pools gone) (first : gone ≡ f ∷ fs)
    (out : List ℕ) (room : length out ≡ room_least) (r : Stepped) (pools' : List Pool) (out' : List ℕ) (framed : Framed d.book pools (body_at tape f) midnight out r pools' out') where
  abbrev now : ℕ → Call
  now n = call_of (state_of d.book pools) (record { body = body_at tape f; asked = asked_by midnight n })

  answer : r.answer ≡ answer_of (now room_least)
  answer = framed.answer ∙ ap (λ (n : ℕ). answer_of (now n)) room

  here : OnWay start tape d pools (f ∷ fs)
  here = rw first at w

  further : OnWay start tape d pools (f ∷ fs) → (b : Bool) → is_accepted (answer_of (now room_least)) ≡ b → (accepted others : ℕ) → accepted ≡ d.accepted + cond b 1 0 → others ≡ d.others + cond b 0 1
      → OnWay start tape (record { book = r.book; accepted = accepted; others = others }) pools' fs
  unfolding after_all after fed
  further u b said accepted others more else =
      let book : r.book ≡ book_after (now room_least) = framed.book ∙ ap (λ (n : ℕ). book_after (now n)) room in
      let table : pools' ≡ table_after (now room_least) = framed.table ∙ ap (λ (n : ℕ). table_after (now n)) room in
      rw (book, table)
      (record {
        state = u.state;
        accepted = omega (arith, rw said at u.accepted, more);
        others = omega (arith, rw said at u.others, else);
        few = omega (arith, u.few, more, else, one b);
      })

  pub accepted_on : is_accepted r.answer ≡ true → OnWay start tape (record { book = r.book; accepted = d.accepted + 1; others = d.others }) pools' fs
  accepted_on e = further here true (rw answer at e) (d.accepted + 1) d.others refl (omega arith)

  pub refused_on : is_accepted r.answer ≡ false → OnWay start tape (record { book = r.book; accepted = d.accepted; others = d.others + 1 }) pools' fs
  refused_on e = further here false (rw answer at e) d.accepted (d.others + 1) (omega arith) refl
