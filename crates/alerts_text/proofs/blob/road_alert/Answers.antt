-- `alerts_text::blob::road_alert` meets its contract.
use Rattle.alerts_text.proofs.Folding.{road_answer, cause_room, road_room}
use Rattle.alerts_text.proofs.blob.road_alert.Goals as goal

pub write_next-n-requires : goal.write_next-n-requires
write_next-n-requires c =
    let a = c.args in
    cause_room _ _ a.header.now a.description.now a.cause.now _
    c.requires
    c.write_both-a.ensures

pub road_at-requires : goal.road_at-requires
road_at-requires c =
    let a = c.args in
    road_room _ _ a.header.now a.description.now a.cause.now _
    c.requires c.write_both-a.ensures _ _
    c.write_next-n.ensures

pub returns : goal.returns
returns c = search (road_answer)
