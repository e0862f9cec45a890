-- `alerts_apply::texts::has_room` meets its contract.
use Rattle.alerts_apply.specs.Laws.Texts.{room_first, room_second, room_third, room_last}
use Rattle.alerts_apply.proofs.texts.has_room.Goals as goal

pub returns-then-room-a : goal.returns-then-room-a
returns-then-room-a c = search (room_first)

pub returns-then-x-b : goal.returns-then-x-b
returns-then-x-b c = search (room_second)

pub returns-then-y-c : goal.returns-then-y-c
returns-then-y-c c = search (room_third)

pub returns : goal.returns
returns c = search (room_last)
