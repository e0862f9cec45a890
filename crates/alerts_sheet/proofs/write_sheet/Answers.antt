-- `alerts_sheet::write_sheet`: the version, how many alerts, each of them. Assumes nothing.
use Rattle.alerts_sheet.specs.Laws.Written.{sheet_adds}
use Rattle.alerts_sheet.proofs.write_sheet.Goals as goal

pub returns : goal.returns
returns c = sheet_adds c.requires.sheetable c.byte-w1.ensures c.number-w2.ensures c.write_alerts.ensures
