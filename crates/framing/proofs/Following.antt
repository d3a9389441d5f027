-- The frames from a place on are the next one and those after it. Each of them lies ahead of the place before it, so they are fewer than the bytes.
use Rattle.std.proofs.Common.{◌≡◌, refl, sym, ap, ◌∙◌, ℕ, zero, suc, ◌-◌, ◌≤◌, Option, Some, None, List, [], ◌∷◌, length, arith}
use Rattle.framing.specs.declared.Frame.{Frame}
use Rattle.framing.specs.Framing.{next_frame}
use Rattle.framing.specs.Following.{frame_then, frames_from, frames_after}
use Rattle.framing.proofs.Ahead.{frame_ahead}

module _ (tape : List ℕ) where
  -- where there is none
  none_from : (n at : ℕ) → next_frame tape at ≡ None → frames_from tape n at ≡ []
  none_from zero at e = refl
  none_from (suc n) at e = rw e

  past : (n at : ℕ) → length tape ≤ at → frames_from tape n at ≡ []
  past n at h = go (next_frame tape at) refl
    where
      go : (r : Option Frame) → next_frame tape at ≡ r → frames_from tape n at ≡ []
      go None e = none_from n at e
      go (Some f) e = absurd (omega (arith, frame_ahead tape at f e))

  -- more turns than bytes find no more frames
  enough : (n m at : ℕ) → length tape - at ≤ n → length tape - at ≤ m → frames_from tape n at ≡ frames_from tape m at
  enough zero m at h k = sym (past m at (omega arith))
  enough (suc n) zero at h k = past (suc n) at (omega arith)
  enough (suc n) (suc m) at h k = go (enough n m) (next_frame tape at) refl
    where
      go : ((next : ℕ) → length tape - next ≤ n → length tape - next ≤ m → frames_from tape n next ≡ frames_from tape m next)
          → (r : Option Frame) → next_frame tape at ≡ r → frame_then (frames_from tape n) r ≡ frame_then (frames_from tape m) r
      go rest None e = refl
      go rest (Some f) e =
          let b = frame_ahead tape at f e in
          ap (λ (l : List Frame). f ∷ l) (rest f.next (omega (arith, b)) (omega (arith, b)))

  pub frames_none : (at : ℕ) → next_frame tape at ≡ None → frames_after tape at ≡ []
  unfolding frames_after
  frames_none at e = none_from (length tape - at) at e

  pub frames_some : (at : ℕ) (f : Frame) → next_frame tape at ≡ Some f → frames_after tape at ≡ f ∷ frames_after tape f.next
  unfolding frames_after
  frames_some at f e =
      let b = frame_ahead tape at f e in
      let s : length tape - at ≡ suc (length tape - at - 1) = omega (arith, b) in
      ap (λ (n : ℕ). frames_from tape n at) s ∙ rw e (ap (λ (l : List Frame). f ∷ l) (enough (length tape - at - 1) (length tape - f.next) f.next (omega (arith, b)) (omega arith)))

  at_most : (n at : ℕ) → length (frames_from tape n at) ≤ n
  at_most zero at = omega arith
  at_most (suc n) at = go (at_most n) (next_frame tape at)
    where
      go : ((next : ℕ) → length (frames_from tape n next) ≤ n) → (r : Option Frame) → length (frame_then (frames_from tape n) r) ≤ suc n
      go fewer None = omega arith
      go fewer (Some f) = omega (arith, fewer f.next)

  -- no more frames than bytes
  pub frames_few : (at : ℕ) → length (frames_after tape at) ≤ length tape - at
  unfolding frames_after
  frames_few at = at_most (length tape - at) at
