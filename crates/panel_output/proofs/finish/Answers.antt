-- `panel_output::finish` meets its contract.
use borrow.Author.Rules.{rules}
use Rattle.panel_output.specs.Laws.Ending.{refused_so, written_so}
use Rattle.panel_output.proofs.finish.Goals as goal

pub returns-in-Refused : goal.returns-in-Refused
returns-in-Refused c = search refused_so

pub returns-in-Written : goal.returns-in-Written
returns-in-Written c = search written_so
