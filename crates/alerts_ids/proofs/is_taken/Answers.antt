-- `alerts_ids::is_taken` meets its contract.
use Rattle.alerts_ids.specs.Laws.Pieces.{empty_not_taken, lettered_taken, any_taken}
use Rattle.alerts_ids.proofs.is_taken.Goals as goal

pub returns-then-p-eq0 : goal.returns-then-p-eq0
returns-then-p-eq0 c = search (empty_not_taken)

pub returns-then-lettered : goal.returns-then-lettered
returns-then-lettered c = search (lettered_taken)

pub returns : goal.returns
returns c = search (any_taken)
