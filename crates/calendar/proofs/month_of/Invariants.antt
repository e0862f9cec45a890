-- `calendar::month_of` meets its contract: what is left decides, month after month.
use Rattle.calendar.proofs.Counting.{Months}
use Rattle.calendar.proofs.month_of.Given as goal

abbrev pub invariant-loop-month : goal.invariant-loop-month
invariant-loop-month l = Months l.year l.months l.initial.day l.month l.day
