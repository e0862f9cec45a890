-- `report` meets its contract.
use native.Mathlib.Omega.{arith}
use borrow.Author.Rules.{rules}
use Rattle.replay_reading.specs.Laws.Told.{no_report, report_told}
use Rattle.replay_reading.proofs.report.Goals as goal

pub returns-then-out-p : goal.returns-then-out-p
returns-then-out-p c = no_report (omega (arith, c.if-out-p.true))

pub returns-then-out-from : goal.returns-then-out-from
returns-then-out-from c = no_report (omega (arith, c.if-out-p.false, c.if-out-from.true))

pub returns : goal.returns
returns c =
    report_told c.requires.spans c.if-out-p.false c.if-out-from.false c.report-k.ensures
    c.octet.ensures
