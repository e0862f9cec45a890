-- `overlay_message::write_body` meets its contract. Assumes nothing.
use Rattle.formats_write.specs.Promises.Given.{given_signed}
use Rattle.realtime_views.specs.Promises.Views.{view_timestamp}
use Rattle.decode_slots.specs.Index.{index}
use Rattle.decode_slots.specs.Places.{held}
use Rattle.overlay_message.specs.Promises.Message.{timestamp_after}
use Rattle.overlay_message.specs.Laws.Bodies.{body_adds}
use Rattle.overlay_message.proofs.write_body.Goals as goal

pub returns : goal.returns
returns c =
    λ F a e P. body_adds P (timestamp_after (view_timestamp c.args.given) (given_signed c.args.known))
    c.args.count (held c.args.message.now c.args.home.now
    (index c.args.keys.now c.args.marks.now c.args.order.now c.args.n))
    c.put_timestamp-w1.ensures c.number-w2.ensures
    c.write_trips-w3.ensures c.stretch.ensures
