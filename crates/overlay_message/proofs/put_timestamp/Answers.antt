-- `overlay_message::put_timestamp` meets its contract, by the kind of the value. Assumes nothing.
use Rattle.formats_write.specs.Promises.Given.{given_signed}
use Rattle.overlay_message.specs.Laws.Bodies.{timestamp_new, timestamp_old}
use Rattle.overlay_message.proofs.put_timestamp.Goals as goal

pub returns-in-Some : goal.returns-in-Some
returns-in-Some c =
    timestamp_new c.args.given (given_signed c.args.known) c.in-Some.is
    c.signed_code.ensures
    c.byte-q.ensures c.number.ensures

pub returns-in-None : goal.returns-in-None
returns-in-None c =
    timestamp_old c.args.given (given_signed c.args.known) c.in-None.is
    c.optional_signed.ensures
