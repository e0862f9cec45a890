-- `replay_writing::message` meets its contract.
use lib.Dec.{leb}
use Rattle.replay_writing.specs.Laws.Ran.{fits, message_ran, message_unlent, lent_so}
use borrow.Author.Rules.{rules}
use Rattle.replay_writing.proofs.message.Goals as goal

pub run_message-requires-clause-fits : goal.run_message-requires-clause-fits
run_message-requires-clause-fits c =
    fits _ _ _ _ _ _ _ c.args.lent _ (lent_so (leb c.args.q.out c.args.lent)
    c.is_lent.ensures c.if-is_lent-q.true) c.requires.lent_in_bounds

pub run_message-requires-clause-sound : goal.run_message-requires-clause-sound
run_message-requires-clause-sound c = c.requires.sound

pub returns-then-is_lent-q : goal.returns-then-is_lent-q
returns-then-is_lent-q c =
    message_ran c.message_work-w.ensures (lent_so (leb c.args.q.out c.args.lent)
    c.is_lent.ensures c.if-is_lent-q.true) c.run_message.ensures

pub returns : goal.returns
returns c =
    message_unlent c.message_work-w.ensures
    (lent_so (leb c.args.q.out c.args.lent) c.is_lent.ensures c.if-is_lent-q.false)
