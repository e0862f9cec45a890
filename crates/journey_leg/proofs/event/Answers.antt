-- `event` meets its contract.
use Rattle.journey_leg.specs.Laws.Leg.{event_told, event_kept}
use borrow.Author.Rules.{rules}
use mir.Syntax.{w64}
use mir.Val.{SFits}
use Rattle.journey_leg.proofs.event.Goals as goal

pub returns-then-r : goal.returns-then-r
returns-then-r c =
    let r = c.args.r in
    let f : SFits w64 r.time = search rules in
    event_told r f c.if-r.true c.optional_signed.ensures

pub returns : goal.returns
returns c = event_kept _ c.if-r.false c.stretch.ensures
