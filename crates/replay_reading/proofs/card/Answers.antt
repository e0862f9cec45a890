-- `card` meets its contract.
use borrow.Author.Rules.{rules}
use mathlib.Core.Path.{refl, sym, ◌∙◌}
use Rattle.replay_reading.specs.Laws.Card.{card_fits, lent_card, unlent_card}
use Rattle.replay_reading.proofs.card.Goals as goal

pub card_of-requires-clause-sound : goal.card_of-requires-clause-sound
card_of-requires-clause-sound c = c.requires

pub card_of-requires-clause-card_fits : goal.card_of-requires-clause-card_fits
card_of-requires-clause-card_fits c =
    card_fits c.card_work-w.result (sym c.is_lent.ensures ∙ c.if-is_lent.true)

pub returns-then-is_lent : goal.returns-then-is_lent
returns-then-is_lent c =
    lent_card c.card_work-w.ensures (sym c.is_lent.ensures ∙ c.if-is_lent.true)
    c.card_of.ensures

pub returns : goal.returns
returns c = unlent_card c.card_work-w.ensures (sym c.is_lent.ensures ∙ c.if-is_lent.false) refl
