-- `head_of` meets its contract.
use Rattle.journey_card.specs.Laws.Head.{head_bytes}
use borrow.Author.Rules.{rules}
use mir.Syntax.{w64}
use mir.Val.{SFits}
use Rattle.journey_card.proofs.head_of.Goals as goal

pub returns : goal.returns
returns c =
    let t = c.args.t in
    let f : SFits w64 t.departure = search rules in
    let g : SFits w64 t.arrival = search rules in
    head_bytes t c.args.duration c.args.status f g c.ranges.duration
    c.byte-w1.ensures c.signed-w2.ensures c.signed-w3.ensures c.signed-w4.ensures c.number.ensures
