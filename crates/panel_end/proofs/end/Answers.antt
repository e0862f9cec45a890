-- `end` meets its contract.
use borrow.Author.Rules.{rules}
use Rattle.panel_end.specs.Laws.End.{end_at, end_broken}
use Rattle.panel_end.proofs.end.Goals as goal

pub returns-in-Some : goal.returns-in-Some
returns-in-Some c = search end_at

pub returns-in-None : goal.returns-in-None
returns-in-None c = search end_broken
