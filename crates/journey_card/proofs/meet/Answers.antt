-- `meet` meets its contract.
use Rattle.journey_card.specs.Laws.Steps.{met}
use borrow.Author.Rules.{rules}
use mir.Syntax.{w64}
use mir.Val.{SFits}
use Rattle.journey_card.proofs.meet.Goals as goal

pub returns : goal.returns
returns c =
    let r = c.args.r in
    let f : SFits w64 r.departs.time = search rules in
    let g : SFits w64 r.arrives.time = search rules in
    met c.args.s r c.args.alert c.args.departure c.args.arrival
    c.taken-last.result c.taken.result f g c.live-live.ensures c.late-late.ensures c.taken-last.ensures c.taken.ensures
    c.choose-first.ensures c.or.ensures c.or-2.ensures c.or-3.ensures c.or-4.ensures
