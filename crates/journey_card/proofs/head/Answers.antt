-- `head` meets its contract.
use Rattle.journey_card.specs.Laws.Head.{head_out, head_in}
use borrow.Author.Rules.{rules}
use mir.Syntax.{w64}
use mir.Val.{SFits}
use Rattle.journey_card.proofs.head.Goals as goal

pub returns-then-card-at : goal.returns-then-card-at
returns-then-card-at c = head_out c.if-card-at.true

pub returns : goal.returns
returns c =
    let t = c.card_times-t.result in
    let f : SFits w64 t.departure = search rules in
    let g : SFits w64 t.arrival = search rules in
    head_in t c.minus.result c.status.result f g
    (record { sfits = c.minus.type_inv }) c.card_times-t.ensures
    c.minus.ensures c.status.ensures c.head_of.ensures
