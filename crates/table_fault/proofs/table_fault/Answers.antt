-- Where none of the rules before is broken, the live records are fine and in order.
use Rattle.std.proofs.Common.{◌≡◌, ℕ, arith, sym, ap, ◌∙◌, take, length-take}
use Rattle.book.specs.Soundness.{live_of}
use Rattle.fault.specs.Faults.{book_fault}
use Rattle.table_fault.proofs.Live.{live_is}
use Rattle.table_fault.proofs.Before.{few, short, fine, ordered}
use Rattle.table_fault.proofs.table_fault.Goals as goal

pub before_pars-requires : goal.before_pars-requires
before_pars-requires c =
    let t = c.args.pools.now in
    (ap (λ (n : ℕ). take n t) c.min.ensures ∙ live_is c.args.book.now.live t, omega (arith, length-take c.min.result t))

pub returns-in-Some : goal.returns-in-Some
unfolding book_fault
returns-in-Some c = rw (sym c.in-Some.ensures)

pub pars_fault-requires : goal.pars_fault-requires
pars_fault-requires c =
    let b = c.args.book.now in
    let t = c.args.pools.now in
    let live : take c.min.result t ≡ live_of b t = ap (λ (n : ℕ). take n t) c.min.ensures ∙ live_is b.live t in
    let e = c.in-None.ensures in
    (few b t e, omega (arith, short b t e, length-take c.min.result t), rw live (fine b t e), rw live (ordered b t e))

pub returns-in-None : goal.returns-in-None
unfolding book_fault
returns-in-None c =
    let b = c.args.book.now in
    let t = c.args.pools.now in
    let live : take c.min.result t ≡ live_of b t = ap (λ (n : ℕ). take n t) c.min.ensures ∙ live_is b.live t in
    rw (sym c.in-None.ensures, ← live) c.pars_fault.ensures
