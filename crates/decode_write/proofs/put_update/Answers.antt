-- `decode_write::put_update` meets its contract. Assumes nothing.
use mathlib.Core.Path.{ap}
use Rattle.formats.specs.Number.{number_w}
use Rattle.formats_write.specs.Laws.Adds.{same}
use Rattle.realtime_views.specs.Promises.Views.{view_stop}
use Rattle.decode_write.specs.Laws.Written.{update_adds}
use Rattle.decode_write.proofs.put_update.Goals as goal

pub returns : goal.returns
returns c =
    update_adds c.args.sequence (view_stop c.args.message.now c.args.u)
    (same c.put_number-w1.ensures (ap number_w c.from.ensures)) c.put_text-w2.ensures c.put_event-w3.ensures
    c.put_event-w4.ensures c.put_flag.ensures
