-- `alerts_text::word::bit` meets its contract.
use Rattle.alerts_text.specs.Laws.Word.{bit_set, bit_clear}
use Rattle.alerts_text.proofs.word.bit.Goals as goal

pub returns-then-word-eq1 : goal.returns-then-word-eq1
returns-then-word-eq1 c = search (bit_set)

pub returns-else-word-eq1 : goal.returns-else-word-eq1
returns-else-word-eq1 c = search (bit_clear)
