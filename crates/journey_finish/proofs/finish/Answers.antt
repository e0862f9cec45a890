-- `finish` meets its contract.
use Rattle.journey_finish.specs.Laws.Finish.{finished}
use Rattle.journey_finish.proofs.finish.Goals as goal

pub returns : goal.returns
returns c = search finished
