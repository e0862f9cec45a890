-- `panel_probes::length_of` meets its contract.
use Rattle.panel_probes.specs.Laws.Lengths.{own_length, published_length}
use Rattle.panel_probes.proofs.length_of.Goals as goal

pub returns-then-n-le-OVERLAY : goal.returns-then-n-le-OVERLAY
returns-then-n-le-OVERLAY c = search own_length

pub returns : goal.returns
returns c = search published_length
