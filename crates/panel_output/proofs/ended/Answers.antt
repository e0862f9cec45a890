-- `panel_output::ended` meets its contract.
use borrow.Author.Rules.{rules}
use Rattle.panel_output.specs.Laws.Ending.{put_at, put_full}
use Rattle.panel_output.proofs.ended.Goals as goal

pub returns-in-Some : goal.returns-in-Some
returns-in-Some c = search put_at

pub returns-in-None : goal.returns-in-None
returns-in-None c = search put_full
