-- `alerts_apply::texts::road_alert` meets its contract.
use mathlib.Core.Path.{ap}
use mathlib.Core.Bool.{not}
use Rattle.alerts_apply.specs.Laws.Texts.{road_room, road_no_room, road_told}
use Rattle.alerts_apply.proofs.texts.road_alert.Goals as goal

pub returns-then-not-has_room : goal.returns-then-not-has_room
returns-then-not-has_room c = search (road_no_room)

pub road_alert-requires : goal.road_alert-requires
road_alert-requires c =
    let args = c.args in
    road_room c.text_at-h.ensures c.text_at-d.ensures args.text.now
    c.text_at-k.ensures c.has_room.ensures (ap not c.if-not-has_room.false)

pub returns : goal.returns
returns c = search (road_told)
