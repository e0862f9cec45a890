-- `overlay_message::write_state` meets its contract. Assumes nothing.
use Rattle.decode_slots.specs.Index.{index}
use Rattle.decode_slots.specs.Places.{held}
use Rattle.overlay_message.specs.Promises.Message.{feed_after}
use Rattle.overlay_message.specs.Laws.Bodies.{state_wrote}
use Rattle.overlay_message.proofs.write_state.Goals as goal

pub returns : goal.returns
returns c =
    λ st F a e t S P is. state_wrote (feed_after c.args.feed.now t F
    (held c.args.message.now c.args.home.now
    (index c.args.keys.now c.args.marks.now c.args.order.now c.args.n)))
    S (c.read_head-version.ensures.to S.whole).version_is
    (c.opening-w1.ensures c.args.end st c.args.to S)
    (c.write_feed-w2.ensures F a e t P is)
    (c.closing.ensures st c.args.feed.now c.args.from c.args.count S)
