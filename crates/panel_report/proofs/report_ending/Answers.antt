-- `panel_report::report_ending` meets its contract.
use mathlib.Core.Path.{refl}
use borrow.Author.Rules.{rules}
use Rattle.panel_report.specs.Laws.Report.{report_unsized, report_no, report_good, report_bad}
use Rattle.panel_report.proofs.report_ending.Goals as goal

pub returns-then-not-same_lengths : goal.returns-then-not-same_lengths
returns-then-not-same_lengths c =
    report_unsized c.same_lengths.ensures c.if-not-same_lengths.true

pub returns-then-feed_ok : goal.returns-then-feed_ok
returns-then-feed_ok c =
    report_good c.same_lengths.ensures c.if-not-same_lengths.false c.«open».ensures
    c.in-Some.is c.feed_ok.ensures c.if-feed_ok.true refl
    c.write_report-w.ensures c.of_put.ensures

pub returns-in-None : goal.returns-in-None
returns-in-None c =
    report_no c.same_lengths.ensures c.if-not-same_lengths.false c.«open».ensures
    c.in-None.is

pub returns-else-feed_ok : goal.returns-else-feed_ok
returns-else-feed_ok c =
    report_bad c.same_lengths.ensures c.if-not-same_lengths.false c.«open».ensures
    c.in-Some.is c.feed_ok.ensures c.if-feed_ok.false
