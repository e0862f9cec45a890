-- `card_of` meets its contract.
use borrow.Author.Rules.{rules}
use native.Mathlib.Omega.{arith}
use Rattle.replay_reading.specs.Laws.Card.{no_card, card_told}
use Rattle.replay_reading.proofs.card_of.Goals as goal

pub returns-then-out-p : goal.returns-then-out-p
returns-then-out-p c = no_card (omega (arith, c.if-out-p.true))

pub returns-then-out-from : goal.returns-then-out-from
returns-then-out-from c = no_card (omega (arith, c.if-out-p.false, c.if-out-from.true))

pub returns : goal.returns
returns c =
    card_told c.requires.sound.spans c.if-out-p.false c.if-out-from.false c.run_card_here-k.ensures
    c.octet.ensures
