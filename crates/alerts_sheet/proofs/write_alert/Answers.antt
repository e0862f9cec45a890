-- `alerts_sheet::write_alert`: its words, no cause, its ids. Assumes nothing.
use Rattle.alerts_sheet.specs.Laws.Written.{alert_adds}
use Rattle.alerts_sheet.proofs.write_alert.Goals as goal

pub write_ids-w4-requires : goal.write_ids-w4-requires
write_ids-w4-requires c = c.requires

pub write_ids-w5-requires : goal.write_ids-w5-requires
write_ids-w5-requires c = c.requires

pub write_ids-requires : goal.write_ids-requires
write_ids-requires c = c.requires

pub returns : goal.returns
returns c =
    alert_adds c.header_of-header.ensures c.description_of-description.ensures
    c.optional_text-w1.ensures c.optional_text-w2.ensures c.byte-w3.ensures
    c.write_ids-w4.ensures c.write_ids-w5.ensures c.write_ids.ensures
