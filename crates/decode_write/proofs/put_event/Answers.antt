-- `decode_write::put_event` meets its contract. Assumes nothing.
use Rattle.formats_write.specs.Laws.Adds.{then}
use Rattle.decode_write.specs.Promises.Written.{signed_w}
use Rattle.decode_write.specs.Laws.Written.{given_adds, time_given}
use Rattle.decode_write.proofs.put_event.Goals as goal

pub returns : goal.returns
returns c = then c.put_delay-q.ensures (given_adds signed_w c.put_signed.ensures (time_given c.args.e.time))
