-- `journey_labels::note`: it stands there already, or goes in at its rank.
use Rattle.journey_labels.specs.Laws.Labels.{noted_before, noted_now, rank_few, room_from, room_to}
use Rattle.journey_labels.proofs.note.Goals as goal

pub returns-then-stands : goal.returns-then-stands
returns-then-stands c = search noted_before

pub insert-requires : goal.insert-requires
insert-requires c = (search rank_few, search room_from)

pub insert-requires-2 : goal.insert-requires-2
insert-requires-2 c = (search rank_few, search room_to)

pub returns : goal.returns
returns c = search noted_now
