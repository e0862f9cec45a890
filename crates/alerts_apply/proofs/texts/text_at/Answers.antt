-- `alerts_apply::texts::text_at` meets its contract.
use Rattle.alerts_apply.specs.Laws.Texts.{shown_out, shown_some, shown_none}
use Rattle.alerts_apply.proofs.texts.text_at.Goals as goal

pub returns-then-s-at : goal.returns-then-s-at
returns-then-s-at c = search (shown_out)

pub returns-then-s-at-eq1 : goal.returns-then-s-at-eq1
returns-then-s-at-eq1 c = search (shown_some)

pub returns : goal.returns
returns c = search (shown_none)
