-- The answer is that of the test over the range.
use Rattle.std.proofs.Common.{rules, arith, ◌∙◌, ◌+◌, ◌-◌}
use Rattle.std.proofs.lemmas.Iterator.{YieldsList-from_range}
use Rattle.std.proofs.lemmas.Iterator.Search.{all_from_yields_List}
use Rattle.check_listed.proofs.Passes.{even_before, before_even}
use Rattle.check_listed.proofs.marks_even.Goals as goal

pub returns : goal.returns
returns c =
    let a = c.args in
    all_from_yields_List (even_before a.pools.now a.marks.now) _ _ _ c.all.ensures.ran
    (YieldsList-from_range (a.run.start + 1) a.run.stop (a.run.stop - 1 - a.run.start) (search rules) (omega arith)) (λ x b q k. search rules)
    ∙ before_even a.pools.now a.marks.now a.run.start a.run.stop
