-- `calendar::month_of` meets its contract: what is left decides, month after month.
use Rattle.std.proofs.Common.{rules}
use Rattle.calendar.proofs.Counting.{month_here, months_more, month_last}
use Rattle.calendar.proofs.month_of.Goals as goal

pub returns-then-day-months : goal.returns-then-day-months
returns-then-day-months c = search (rules, month_here)

pub loop-month-preserved : goal.loop-month-preserved
loop-month-preserved c = search (rules, months_more)

pub returns : goal.returns
returns c = search (rules, month_last)
