-- `texts` meets its contract.
use Rattle.journey_alerts.specs.Laws.Texts.{texts_at}
use borrow.Author.Rules.{rules}
use Rattle.journey_alerts.proofs.texts.Goals as goal

pub returns : goal.returns
returns c = search texts_at
