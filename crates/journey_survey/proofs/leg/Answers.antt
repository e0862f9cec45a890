-- `leg` meets its contract.
use Rattle.journey_survey.specs.Laws.Legs.{leg_out, leg_walk, leg_taken}
use borrow.Author.Rules.{rules}
use Rattle.journey_survey.proofs.leg.Goals as goal

pub returns-then-card-at : goal.returns-then-card-at
returns-then-card-at c = search leg_out

pub returns-then-tag-eq1 : goal.returns-then-tag-eq1
returns-then-tag-eq1 c =
    leg_taken c.tag.ensures c.if-tag-eq1.true c.look-r.ensures c.leg-a.ensures c.one_more.ensures

pub returns : goal.returns
returns c = search leg_walk
