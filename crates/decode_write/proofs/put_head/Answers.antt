-- `decode_write::put_head` meets its contract. Assumes nothing.
use Rattle.realtime_views.specs.Promises.Views.{view_trip}
use Rattle.decode_write.specs.Laws.Written.{head_adds}
use Rattle.decode_write.proofs.put_head.Goals as goal

pub returns : goal.returns
returns c =
    head_adds (view_trip c.args.message.now c.args.t) c.put_delay-w1.ensures
    c.put_flag-w2.ensures
    c.put_text-w3.ensures c.put_text-w4.ensures
    c.put_direction-w5.ensures c.put_text.ensures
