-- `overlay_records::alerts` meets its contract.
use Rattle.formats_check.specs.Laws.Elements.{in_place}
use Rattle.formats_check.specs.Laws.Walks.{all_many, all_no, all_so}
use Rattle.overlay_records.proofs.alerts.Goals as goal

pub returns-in_err-n : goal.returns-in_err-n
returns-in_err-n c = rw c.from_residual.ensures (search (all_no, c.in_err-n.was))

pub returns-then-n-gt256 : goal.returns-then-n-gt256
returns-then-n-gt256 c = search (all_many, c.in_ok-n.was)

pub alerts_from-requires : goal.alerts_from-requires
alerts_from-requires c = search (in_place, c.in_ok-n.was)

pub returns : goal.returns
returns c = search (all_so, c.in_ok-n.was)
