-- 42 comes first, then the checks of the sender; what they let pass goes on to those of the trader.
use mathlib.Core.Path.{sym, ◌∙◌}
use borrow.Author.Rules.{rules}
use Rattle.book.specs.Checks.{asked_by}
use Rattle.table_step.proofs.Answering.{unsound_decides, sender_decides, ready, trader_decides}
use Rattle.table_step.proofs.decide.Goals as goal

pub returns-then-not-is_sound : goal.returns-then-not-is_sound
returns-then-not-is_sound c =
    unsound_decides c.args.book.now c.args.pools.now c.args.body.now _ (sym c.is_sound.ensures ∙ c.if-not-is_sound.true)

pub returns-in_err-first_of_sender : goal.returns-in_err-first_of_sender
returns-in_err-first_of_sender c =
    sender_decides c.args.book.now c.args.pools.now c.args.body.now _ (sym c.is_sound.ensures ∙ c.if-not-is_sound.false) _
    (c.first_of_sender.ensures c.args.pools.now c.args.caller) _ c.in_err-first_of_sender.was _ (search rules)

pub decide-requires : goal.decide-requires
decide-requires c =
    ready c.args.book.now c.args.pools.now c.args.body.now (asked_by c.args.caller c.args.room) (sym c.is_sound.ensures ∙ c.if-not-is_sound.false) _
    (c.first_of_sender.ensures c.args.pools.now c.args.caller) c.in_ok-first_of_sender.was

pub returns : goal.returns
returns c =
    trader_decides c.args.book.now c.args.pools.now c.args.body.now _ (sym c.is_sound.ensures ∙ c.if-not-is_sound.false) _
    (c.first_of_sender.ensures c.args.pools.now c.args.caller) c.in_ok-first_of_sender.was _ (c.decide.ensures (asked_by c.args.caller c.args.room))
