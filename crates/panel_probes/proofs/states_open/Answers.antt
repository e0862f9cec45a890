-- `panel_probes::states_open` meets its contract.
use borrow.Author.Rules.{rules}
use Rattle.panel_probes.specs.Laws.States.{no_end, its_end}
use Rattle.panel_probes.proofs.states_open.Goals as goal

pub returns-in-None : goal.returns-in-None
returns-in-None c = search no_end

pub returns-in-Some : goal.returns-in-Some
returns-in-Some c = search its_end
