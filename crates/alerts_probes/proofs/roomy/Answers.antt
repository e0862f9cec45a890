-- `alerts_probes::roomy` meets its contract.
use Rattle.alerts_probes.specs.Laws.Probes.{room_header, room_description, room_short, room_all}
use Rattle.alerts_probes.proofs.roomy.Goals as goal

pub returns-then-n-h : goal.returns-then-n-h
returns-then-n-h c = search (room_header)

pub returns-then-left-d : goal.returns-then-left-d
returns-then-left-d c = search (room_description)

pub returns-then-left-d-2 : goal.returns-then-left-d-2
returns-then-left-d-2 c = search (room_short)

pub returns : goal.returns
returns c = search (room_all)
