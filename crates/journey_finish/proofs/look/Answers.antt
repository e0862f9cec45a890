-- `look` meets its contract.
use Rattle.journey_finish.specs.Laws.Finish.{looked}
use Rattle.journey_finish.proofs.look.Goals as goal

pub returns : goal.returns
returns c = search looked
