-- `panel_message::message_number` meets its contract. Assumes nothing.
use borrow.Author.Rules.{rules}
use Rattle.panel_message.specs.Laws.Message.{too_long, asked_number}
use Rattle.panel_message.proofs.message_number.Goals as goal

pub returns-then-message-gt-MOST_MESSAGE : goal.returns-then-message-gt-MOST_MESSAGE
returns-then-message-gt-MOST_MESSAGE c =
    too_long c.args.feed.now c.args.message.now c.if-message-gt-MOST_MESSAGE.true

pub returns : goal.returns
returns c =
    asked_number c.args.feed.now c.args.message.now c.if-message-gt-MOST_MESSAGE.false c.judge.ensures
    c.feed_ok.ensures c.number_by.ensures
