-- A cleared array that takes a part of its own length becomes that part.
use mathlib.Core.Path.{◌≡◌, sym, ◌∙◌}
use mathlib.Core.List.{List}
use mathlib.Core.Bool.{true}
use Prim.Native.Nat.{ℕ, ◌+◌, ◌≤◌}
use native.Mathlib.Omega.{arith}
use lib.ListN.{length, replicate, length-replicate}
use Rattle.lists.specs.Lists.{within, part}
use Rattle.lists.proofs.Parts.{in_within, length_part}
use Rattle.lists.proofs.Pasting.{paste_whole}
use Rattle.output.specs.Output.{with_part}

pub copied : (s : List ℕ) (at n : ℕ) → at + n ≤ length s → with_part (replicate n 0) 0 s at n ≡ part s at n
unfolding with_part
copied s at n h =
    let w : within s at n ≡ true = in_within s at n (omega arith) (omega arith) in
    let e : length (part s at n) ≡ length (replicate {A = ℕ} n 0) = length_part s at n h ∙ sym (length-replicate {A = ℕ} n 0) in
    rw w (paste_whole (replicate n 0) (part s at n) e)
