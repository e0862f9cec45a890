-- `calendar::year_of` meets its contract: what is left decides, year after year.
use Rattle.calendar.proofs.Counting.{Years}
use Rattle.calendar.proofs.year_of.Given as goal

abbrev pub invariant-loop-year : goal.invariant-loop-year
invariant-loop-year l = Years l.first l.initial.day l.year l.day
