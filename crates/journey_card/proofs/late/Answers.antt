-- `late` meets its contract.
use Rattle.journey_card.specs.Laws.Steps.{late_none, late_departs, late_arrives}
use borrow.Author.Rules.{rules}
use mir.Syntax.{w32}
use mir.Val.{SFits}
use Rattle.journey_card.proofs.late.Goals as goal

pub returns-then-zero : goal.returns-then-zero
returns-then-zero c =
    let r = c.args.r in
    let f : SFits w32 r.departs.delay = search rules in
    let g : SFits w32 r.arrives.delay = search rules in
    late_arrives r c.live.ensures f c.zero.ensures g c.zero-then-zero.ensures c.if-live.true c.if-zero.true

pub returns-then-live : goal.returns-then-live
returns-then-live c =
    let r = c.args.r in
    let f : SFits w32 r.departs.delay = search rules in
    late_departs r c.live.ensures f c.zero.ensures c.if-live.true c.if-zero.false

pub returns : goal.returns
returns c = late_none c.args.r c.live.ensures c.if-live.false
