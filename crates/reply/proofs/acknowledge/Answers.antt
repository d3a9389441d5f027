-- The two columns that are copied are those of the message.
use Rattle.std.proofs.Common.{rules, ◌∙◌, arith}
use Rattle.reply.proofs.Copied.{copied}
use Rattle.reply.proofs.acknowledge.Goals as goal

pub returns : goal.returns
returns c =
    let body = c.args.body.now in
    rw (c.put_part.ensures ∙ copied body 98 16 (omega (arith, c.requires)), c.put_part-2.ensures ∙ copied body 2 6 (omega (arith, c.requires))) (search rules)
