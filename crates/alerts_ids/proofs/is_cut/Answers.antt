-- `alerts_ids::is_cut` meets its contract.
use Rattle.alerts_ids.specs.Laws.Pieces.{cut_colon, cut_other}
use Rattle.alerts_ids.proofs.is_cut.Goals as goal

pub returns-then-b-eq58 : goal.returns-then-b-eq58
returns-then-b-eq58 c = search (cut_colon)

pub returns : goal.returns
returns c = search (cut_other)
