-- `alerts_text::blob::read` meets its contract.
use Rattle.alerts_text.proofs.Folding.{read_capital, read_last, read_single, read_letter}
use Rattle.alerts_text.proofs.blob.read.Goals as goal

pub returns-then-not-fold : goal.returns-then-not-fold
returns-then-not-fold c = search (read_capital)

pub returns-then-s-j : goal.returns-then-s-j
returns-then-s-j c = search (read_last)

pub returns-then-letter-eq0 : goal.returns-then-letter-eq0
returns-then-letter-eq0 c = search (read_single)

pub returns : goal.returns
returns c = search (read_letter)
