-- `card_number` meets its contract.
use borrow.Author.Rules.{rules}
use Rattle.panel_card.specs.Laws.Number.{card_long, card_broken, card_cut, card_judged}
use Rattle.panel_card.proofs.card_number.Goals as goal

pub returns-then-card-gt-MOST_CARD : goal.returns-then-card-gt-MOST_CARD
returns-then-card-gt-MOST_CARD c = search card_long

pub returns-in_default : goal.returns-in_default
returns-in_default c = search card_broken

pub returns-then-p-card : goal.returns-then-p-card
returns-then-p-card c = search card_cut

pub returns : goal.returns
returns c = search card_judged
