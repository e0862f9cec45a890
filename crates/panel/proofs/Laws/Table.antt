-- Law. EVERY CALL keeps what every call has to.
use Rattle.panel.specs.Calls.{Call, fresh, message, alert_sheet, vehicle_sheet, card, report, feed_alerts, rule}
use Rattle.panel.proofs.Laws.Lawful.{Lawful}
use Rattle.panel.proofs.Laws.Fresh.{fresh_lawful}
use Rattle.panel.proofs.Laws.Message.{message_lawful}
use Rattle.panel.proofs.Laws.AlertSheet.{alert_sheet_lawful}
use Rattle.panel.proofs.Laws.VehicleSheet.{vehicle_sheet_lawful}
use Rattle.panel.proofs.Laws.Card.{card_lawful}
use Rattle.panel.proofs.Laws.Report.{report_lawful}
use Rattle.panel.proofs.Laws.FeedAlerts.{feed_alerts_lawful}

pub lawful : (c : Call) → Lawful (rule c)
lawful (fresh new) = fresh_lawful new
lawful (message f m new work) = message_lawful f m new work
lawful (alert_sheet f sheet new work) = alert_sheet_lawful f sheet new work
lawful (vehicle_sheet f sheet clock new work) = vehicle_sheet_lawful f sheet clock new work
lawful (card bytes out work) = card_lawful bytes out work
lawful (report f out) = report_lawful f out
lawful (feed_alerts f m out) = feed_alerts_lawful f m out
