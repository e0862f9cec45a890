-- `alerts_views::first_item` meets its contract, in the bytes up to the message's end. Assumes nothing.
use Rattle.alerts_views.proofs.Presence.{first_walks, first_read}
use Rattle.alerts_views.proofs.first_item.Goals as goal

pub next_item-requires : goal.next_item-requires
next_item-requires c =
    let a = c.args in
    first_walks a.k a.message.now a.start a.len c.requires c.items-walk.ensures
    c.part.ensures

pub returns : goal.returns
returns c =
    let a = c.args in
    first_read a.k a.message.now a.start a.len c.requires
    c.items-walk.ensures c.part.ensures c.next_item.ensures
