-- `alerts_text::lines::filled_len` meets its contract.
use Rattle.alerts_text.proofs.Naming.{unfilled_length, filled_length}
use Rattle.alerts_text.proofs.lines.filled_len.Goals as goal

pub returns-then-pattern-h : goal.returns-then-pattern-h
returns-then-pattern-h c = search (unfilled_length)

pub returns : goal.returns
returns c = search (filled_length)
