-- `panel_report::bits` meets its contract.
use borrow.Author.Rules.{rules}
use Rattle.panel_report.specs.Laws.Report.{even_bits, odd_bits}
use Rattle.panel_report.proofs.bits.Goals as goal

pub returns-then-code-eq0 : goal.returns-then-code-eq0
returns-then-code-eq0 c = search even_bits

pub returns : goal.returns
returns c = search odd_bits
