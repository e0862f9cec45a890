-- `alerts_sheet::write_id`: the feed's id, ':' and the id, behind their length. Assumes nothing.
use Rattle.alerts_sheet.specs.Laws.Written.{id_adds}
use Rattle.alerts_sheet.proofs.write_id.Goals as goal

pub returns : goal.returns
returns c =
    id_adds c.args.feed.now c.args.message.now c.args.id c.requires.part_inside
    c.number-w1.ensures c.stretch-w2.ensures c.byte-w3.ensures
    c.stretch.ensures
