-- The book and the caller are read, the call is made on them, and what it gives back is written.
use Rattle.rhoikandra.proofs.Calling.{called}
use Rattle.rhoikandra.proofs.rhoikandra_step.Goals as goal

pub returns : goal.returns
returns c =
    let a = c.args in
    called a.image.now a.pools.now a.body.now a.time.now a.seed a.out.now a.said.now c.start-book.result c.caller_of-caller.result c.step-stepped.result
    c.finish.new.image c.step-stepped.new.pools c.step-stepped.new.out c.finish.new.said c.start-book.ensures c.caller_of-caller.ensures c.step-stepped.ensures c.finish.ensures
