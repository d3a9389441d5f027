-- A frame that is found lies ahead of the place and within the tape: its 02 stands at or after the place, and its 03 after that, before the end. So a loop from frame to frame ends.
use Rattle.std.proofs.Common.{◌≡◌, ℕ, ◌+◌, ◌≤◌, ◌<◌, Some, List, [], ◌∷◌, length, drop, arith}
use Rattle.std.proofs.Math.ListN.{length-drop}
use Rattle.framing.specs.declared.Frame.{Frame}
use Rattle.framing.specs.Framing.{inside, outside, next_frame}

-- a frame from place at on and before place last
pub record Between (at last : ℕ) (f : Frame) : Type 0 where
  pub after : at < f.start
  pub ordered : f.start ≤ f.end
  pub next_is : f.next ≡ f.end + 1
  pub before : f.end < last

inside_between : (f : Frame) (at start p : ℕ) (bs : List ℕ) → at < start → start ≤ p → inside start p bs ≡ Some f → Between at (p + length bs) f
inside_between f at start p [] h k q = cc
inside_between f at start p (b ∷ bs) h k q = record {
  after = grind (arith, inside_between f at (p + 1) (p + 1) bs, inside_between f at start (p + 1) bs);
  ordered = grind (arith, inside_between f at (p + 1) (p + 1) bs, inside_between f at start (p + 1) bs);
  next_is = grind (arith, inside_between f at (p + 1) (p + 1) bs, inside_between f at start (p + 1) bs);
  before = grind (arith, inside_between f at (p + 1) (p + 1) bs, inside_between f at start (p + 1) bs);
}

outside_between : (f : Frame) (p : ℕ) (bs : List ℕ) → outside p bs ≡ Some f → Between p (p + length bs) f
outside_between f p [] q = cc
outside_between f p (b ∷ bs) q = record {
  after = grind (arith, inside_between f p (p + 1) (p + 1) bs, outside_between f (p + 1) bs);
  ordered = grind (arith, inside_between f p (p + 1) (p + 1) bs, outside_between f (p + 1) bs);
  next_is = grind (arith, inside_between f p (p + 1) (p + 1) bs, outside_between f (p + 1) bs);
  before = grind (arith, inside_between f p (p + 1) (p + 1) bs, outside_between f (p + 1) bs);
}

pub frame_ahead : (tape : List ℕ) (at : ℕ) (f : Frame) → next_frame tape at ≡ Some f → Between at (length tape) f
unfolding next_frame
frame_ahead tape at f q =
    let r = outside_between f at (drop at tape) q in
    record { after = r.after; ordered = r.ordered; next_is = r.next_is; before = omega (arith, r, length-drop at tape) }
