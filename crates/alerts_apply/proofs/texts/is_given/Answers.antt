-- `alerts_apply::texts::is_given` meets its contract.
use Rattle.alerts_apply.specs.Laws.Texts.{given_out, given_tag}
use Rattle.alerts_apply.proofs.texts.is_given.Goals as goal

pub returns-then-s-at : goal.returns-then-s-at
returns-then-s-at c = search (given_out)

pub returns : goal.returns
returns c = search (given_tag)
