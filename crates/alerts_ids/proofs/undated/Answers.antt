-- `alerts_ids::undated` meets its contract.
use Rattle.alerts_ids.specs.Laws.Ends.{cut_part, undated_cut}
use Rattle.alerts_ids.proofs.undated.Goals as goal

pub slice_bounds-result-end : goal.slice_bounds-result-end
slice_bounds-result-end c = search (cut_part)

pub returns : goal.returns
returns c = search (undated_cut)
