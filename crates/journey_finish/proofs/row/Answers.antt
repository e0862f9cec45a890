-- `row` meets its contract.
use Rattle.journey_finish.specs.Laws.Finish.{row_none, row_found}
use Rattle.journey_finish.proofs.row.Goals as goal

pub returns-in-Some : goal.returns-in-Some
returns-in-Some c = search row_found

pub returns-in-None : goal.returns-in-None
returns-in-None c = search row_none
