-- `each_middle` meets its contract.
use Rattle.formats.specs.Format.{write}
use Rattle.journey.specs.Card.{middle}
use Rattle.journey_stops.specs.Laws.Advance.{start, step, stop}
use Rattle.journey_stops.specs.Promises.Stops.{stop_by}
use borrow.Author.Rules.{rules}
use mathlib.Core.Path.{refl}
use Rattle.journey_stops.proofs.each_middle.Goals as goal

pub loop-left-init : goal.loop-left-init
loop-left-init c = (refl, λ o X. start (λ v. write middle (stop_by o v)))

pub loop-left-preserved : goal.loop-left-preserved
loop-left-preserved c = (
  search rules,
  λ o X. step (λ v. write middle (stop_by o v)) c.past_middle-e.result (c.loop-left.invariant.1 o X)
      c.loop-left-test.true (λ v q h. c.past_middle-e.ensures.to h) (λ v h j. c.middle-k.ensures.adds o X h j),
)

pub shape_of-out : goal.shape_of-out
shape_of-out c = c.loop-left.invariant.0

pub returns : goal.returns
returns c =
    record {
      adds = λ o X vs q e h j. stop (λ v. write middle (stop_by o v)) (c.loop-left.invariant.1 o X)
          c.loop-left-test.false vs q e h j;
    }
