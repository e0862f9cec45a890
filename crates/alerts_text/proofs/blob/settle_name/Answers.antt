-- `alerts_text::blob::settle_name` meets its contract.
use Rattle.alerts_text.proofs.Folding.{settle_room, settles_name}
use Rattle.alerts_text.proofs.blob.settle_name.Goals as goal

pub own_at-own-requires : goal.own_at-own-requires
own_at-own-requires c = search (settle_room)

pub returns : goal.returns
returns c = search (settles_name)
