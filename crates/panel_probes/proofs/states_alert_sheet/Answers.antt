-- `panel_probes::states_alert_sheet` meets its contract.
use borrow.Author.Rules.{rules}
use Rattle.panel_probes.specs.Laws.Lengths.{given_at}
use Rattle.panel_probes.proofs.states_alert_sheet.Goals as goal

pub returns : goal.returns
returns c = given_at c.length_of.ensures c.alert_sheet.ensures
