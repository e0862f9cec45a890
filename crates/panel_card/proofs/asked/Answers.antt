-- `asked` meets its contract.
use borrow.Author.Rules.{rules}
use Rattle.panel_card.specs.Laws.Card.{asked_closed, asked_open, two_notes, asked_notes}
use Rattle.panel_card.proofs.asked.Goals as goal

pub returns-in_default-clause-value : goal.returns-in_default-clause-value
returns-in_default-clause-value c = search asked_closed

pub returns-in_default-clause-asked_notes : goal.returns-in_default-clause-asked_notes
returns-in_default-clause-asked_notes c = two_notes

pub returns-clause-value : goal.returns-clause-value
returns-clause-value c = search asked_open

pub returns-clause-asked_notes : goal.returns-clause-asked_notes
returns-clause-asked_notes c = search asked_notes
