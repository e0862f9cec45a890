-- `panel_message::message` meets its contract.
use borrow.Author.Rules.{rules}
use Rattle.panel_message.specs.Laws.Message.{message_given}
use Rattle.panel_message.proofs.message.Goals as goal

pub returns : goal.returns
returns c =
    message_given c.message_ending-e.ensures c.clear_work.ensures (search rules) (search rules)
    (search rules) (search rules) c.finish.ensures
