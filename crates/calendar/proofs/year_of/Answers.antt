-- `calendar::year_of` meets its contract: what is left decides, year after year.
use Rattle.std.proofs.Common.{rules}
use Rattle.calendar.proofs.Counting.{year_here, years_more, years_last}
use Rattle.calendar.proofs.year_of.Goals as goal

pub returns-then-day-days-clause-value : goal.returns-then-day-days-clause-value
returns-then-day-days-clause-value c = search (rules, year_here)

pub loop-year-preserved : goal.loop-year-preserved
loop-year-preserved c = search (rules, years_more)

pub returns-clause-value : goal.returns-clause-value
returns-clause-value c = search (rules, years_last)
