-- `panel_card::card` meets its contract.
use borrow.Author.Rules.{rules}
use Rattle.panel_card.specs.Laws.Card.{card_given}
use Rattle.panel_card.proofs.card.Goals as goal

pub returns : goal.returns
returns c = search card_given
