-- `alerts_sheet::write_ids`: the ids behind a byte, over which their count is put. Assumes nothing.
use Rattle.alerts_sheet.specs.Laws.Written.{ids_adds}
use Rattle.alerts_sheet.proofs.write_ids.Goals as goal

pub returns : goal.returns
returns c = ids_adds c.requires.writable c.byte-first.ensures c.list_ids-ids.ensures c.byte.ensures
