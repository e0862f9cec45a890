-- `panel_probes::states_report` meets its contract.
use borrow.Author.Rules.{rules}
use Rattle.panel_probes.specs.Laws.Lengths.{given_at}
use Rattle.panel_probes.proofs.states_report.Goals as goal

pub returns : goal.returns
returns c = given_at c.length_of.ensures c.report.ensures
