-- What some check fails is refused, and what all let pass is accepted.
use Rattle.table_step.proofs.Answering.{header_sent, refused_frame}
use Rattle.table_step.proofs.step.Goals as goal

pub refuse-requires : goal.refuse-requires
refuse-requires c =
    let a = c.args in header_sent a.book a.pools.now a.body.now a.caller a.out.now _ c.in-Err.ensures

pub returns-in-Err : goal.returns-in-Err
returns-in-Err c =
    let a = c.args in
    refused_frame a.book a.pools.now a.body.now a.caller a.out.now _ c.in-Err.ensures _ _ c.refuse.ensures.0 c.refuse.ensures.1 c.refuse.ensures.2
