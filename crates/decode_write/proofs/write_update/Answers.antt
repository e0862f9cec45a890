-- `decode_write::write_update` meets its contract. Assumes nothing.
use Rattle.decode_write.specs.Laws.Written.{read_update_adds}
use Rattle.decode_write.proofs.write_update.Goals as goal

pub returns : goal.returns
returns c =
    read_update_adds c.stop_of-u.ensures c.requires c.args.sequence
    c.put_update.ensures
