-- `panel_card::clear_work` meets its contract.
use borrow.Author.Rules.{rules}
use Rattle.panel_card.specs.Laws.Card.{zeros_four}
use Rattle.panel_card.proofs.clear_work.Goals as goal

pub returns : goal.returns
returns c = search zeros_four
