-- `alerts_text::word::below` meets its contract.
use Rattle.alerts_text.specs.Laws.Word.{below_set, below_clear}
use Rattle.alerts_text.proofs.word.below.Goals as goal

pub returns-then-mark-eq1 : goal.returns-then-mark-eq1
returns-then-mark-eq1 c = search (below_set)

pub returns : goal.returns
returns c = search (below_clear)
