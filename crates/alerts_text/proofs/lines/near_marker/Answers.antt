-- `alerts_text::lines::near_marker` meets its contract.
use Rattle.alerts_text.proofs.Naming.{near_found, near_nowhere, found_room}
use Rattle.alerts_text.proofs.lines.near_marker.Goals as goal

pub marked_near-requires : goal.marked_near-requires
marked_near-requires c = search (found_room)

pub returns-in-Some : goal.returns-in-Some
returns-in-Some c = search (near_found)

pub returns-in-None : goal.returns-in-None
returns-in-None c = search (near_nowhere)
