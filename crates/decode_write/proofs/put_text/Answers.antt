-- `decode_write::put_text` meets its contract. Assumes nothing.
use Rattle.decode_write.specs.Laws.Written.{text_adds}
use Rattle.decode_write.proofs.put_text.Goals as goal

pub returns : goal.returns
returns c =
    text_adds c.args.message.now c.args.t c.requires c.put_number-q.ensures
    c.stretch.ensures
