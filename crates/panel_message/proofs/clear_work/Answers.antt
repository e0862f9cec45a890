-- `panel_message::clear_work` meets its contract.
use borrow.Author.Rules.{rules}
use Rattle.panel_message.specs.Laws.Message.{zeros_three}
use Rattle.panel_message.proofs.clear_work.Goals as goal

pub returns : goal.returns
returns c = search zeros_three
