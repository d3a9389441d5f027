-- What a turn reads stands behind what came before it, and the reader has lost just these bytes.
use Rattle.std.proofs.Common.{◌≡◌, ℕ, ◌+◌, ◌≤◌, List, ◌++◌, length, take, sym, ap, subst, ◌∙◌, rules, length-take-le}
use Rattle.std.proofs.Math.Seq.{take-append-add}
use Rattle.std.proofs.lemmas.List.{take-append-le}
use Rattle.std.specs.Io.KnownBytes.{Consumes}
use Rattle.std.proofs.KnownBytes.{Consumes-trans}
use Rattle.daytape.proofs.read_full.Goals as goal

joined : (n m : ℕ) (xs buf rest : List ℕ) → n ≤ length xs → m ≤ length buf → take (n + m) (take n xs ++ (buf ++ rest)) ≡ take n xs ++ take m buf
joined n m xs buf rest h k =
    ap (λ (i : ℕ). take (i + m) (take n xs ++ (buf ++ rest))) (sym (length-take-le n xs h)) ∙ (take-append-add (take n xs) (buf ++ rest) m ∙ ap (λ (l : List ℕ). take n xs ++ l) (take-append-le m buf rest k))

pub loop-n-preserved : goal.loop-n-preserved
loop-n-preserved g c = (
  search rules,
  search rules,
  subst (Consumes (g.R.Read.remaining c.args.input.now) (g.R.Read.remaining c.read.new.self)) (sym (joined c.loop-n.n c.in-Ok.more c.loop-n.tape c.read.new.buf _ c.loop-n.invariant.0 c.in-Ok.ensures.bound.0)) (Consumes-trans _ (g.R.Read.remaining c.loop-n.input) _ _ _ c.loop-n.invariant.2 c.in-Ok.ensures.bytes.0),
)
