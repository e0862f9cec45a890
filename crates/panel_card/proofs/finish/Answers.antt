-- `panel_card::finish` meets its contract.
use borrow.Author.Rules.{rules}
use Rattle.panel_card.specs.Laws.Card.{card_written}
use Rattle.panel_card.proofs.finish.Goals as goal

pub enrich-requires : goal.enrich-requires
enrich-requires c = c.requires.noted

pub returns : goal.returns
returns c = card_written c.card-legs.ensures c.survey-g.ensures c.enrich.ensures
