-- `overlay_message::write_feed` meets its contract. Assumes nothing.
use Rattle.decode_slots.specs.Index.{index}
use Rattle.decode_slots.specs.Places.{held}
use Rattle.overlay_message.specs.Laws.Bodies.{feed_adds}
use Rattle.overlay_message.proofs.write_feed.Goals as goal

pub returns : goal.returns
returns c =
    let s = c.args.message.now in
    let home = c.args.home.now in
    λ F a e t P is. feed_adds c.args.feed.now
    (held s home (index c.args.keys.now c.args.marks.now c.args.order.now c.args.n))
    P is c.header_of-h.ensures (c.count_left-count.ensures s home)
    (c.write_body.ensures F a e P)
