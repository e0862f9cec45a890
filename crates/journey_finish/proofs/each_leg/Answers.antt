-- `each_leg` meets its contract.
use Rattle.formats.specs.Format.{write}
use Rattle.journey.specs.Card.{leg}
use Rattle.journey.specs.Enrich.{enrich_leg}
use Rattle.journey_stops.specs.Laws.Advance.{start, step, stop}
use Rattle.overlay.specs.Records.{shown}
use borrow.Author.Rules.{rules}
use mathlib.Core.Path.{refl}
use Rattle.journey_finish.proofs.each_leg.Goals as goal

pub loop-left-init : goal.loop-left-init
loop-left-init c = (refl, λ st S. start (λ v. write leg (enrich_leg (shown st) v)))

pub loop-left-preserved : goal.loop-left-preserved
loop-left-preserved c = (
  search rules,
  λ st S. step (λ v. write leg (enrich_leg (shown st) v)) c.past_leg-e.result (c.loop-left.invariant.1 st S)
      c.loop-left-test.true (λ v q h. c.past_leg-e.ensures.to h) (λ v h j. c.leg-k.ensures.adds h j S),
)

pub shape_of-out : goal.shape_of-out
shape_of-out c = c.loop-left.invariant.0

pub returns : goal.returns
returns c =
    record {
      adds = λ {st} S vs q e h j. stop (λ v. write leg (enrich_leg (shown st) v)) (c.loop-left.invariant.1 st S)
          c.loop-left-test.false vs q e h j;
    }
