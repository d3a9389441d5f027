-- Each pool goes into the state with the record of its cell.
use Rattle.std.proofs.Common.{ap, ◌∙◌, inl, inr, rules}
use Rattle.check_listed.specs.declared.Alike.{Alike}
use Rattle.check_listed.proofs.Passes.{each_cell, none_left, liking_done}
use Rattle.check_listed.proofs.lots_alike.Goals as goal

pub loop-d-init : goal.loop-d-init
loop-d-init c =
    let z = c.zip-d-items.ensures in
    record {
      fits = rw (c.into_iter-d-iterator.ensures.into_iter_gives, z.first, z.second.0, c.pools.ensures.all) (each_cell _ _ _ c.requires);
      same = search rules;
    }

pub record_of-requires : goal.record_of-requires
record_of-requires c = let s = (c.in-Some.ensures).steps in (rw (s.0.0, s.1) at c.loop-d.invariant.fits).0

pub loop-d-preserved : goal.loop-d-preserved
loop-d-preserved c =
    let s = (c.in-Some.ensures).steps in
    let i = rw (s.0.0, s.1) at c.loop-d.invariant in
    record { fits = i.fits.1; same = rw (c.alike_pool-s.ensures, c.record_of.ensures) i.same }

pub returns : goal.returns
returns c =
    let left = none_left _ _ (elim (c.in-None.ensures).steps [
      | inl s ↦ inl s.1.0.0
      | inr s ↦ inr s.1.0
    ]) in
    λ place h. ap (λ (s : Alike). s.fine) (rw left at c.loop-d.invariant.same ∙ liking_done c.args.pools.now place _ _ c.told-at h)
