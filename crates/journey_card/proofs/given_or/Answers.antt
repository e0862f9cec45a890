-- `given_or` meets its contract.
use Rattle.journey_card.specs.Laws.Steps.{not_given, given}
use Rattle.journey_card.proofs.given_or.Goals as goal

pub returns-in-None : goal.returns-in-None
returns-in-None c = not_given _ c.ranges.old c.in-None.is

pub returns-in-Some : goal.returns-in-Some
returns-in-Some c = search given
