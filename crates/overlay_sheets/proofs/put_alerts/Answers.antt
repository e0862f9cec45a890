-- `put_alerts` meets its contract.
use Rattle.overlay_sheets.specs.Laws.Sheets.{alerts_changed}
use Rattle.overlay_sheets.proofs.put_alerts.Goals as goal

pub returns : goal.returns
returns c =
    λ s vs B I u.
    alerts_changed B c.behind-to.ensures c.opening-w1.ensures c.closing.ensures
    c.read_head-version.ensures c.read_parts-p.ensures I u c.alerts_over-w2.ensures
