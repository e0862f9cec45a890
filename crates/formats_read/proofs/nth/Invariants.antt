-- `nth` meets its contract.
use Rattle.formats.specs.Promises.Outcome.{format_at}
use Rattle.formats_read.specs.Promises.Lists.{Reaches}
use Rattle.formats_read.proofs.nth.Given as goal

abbrev pub invariant-loop : goal.invariant-loop
invariant-loop l = Reaches (format_at l.depth l.t l.node) l.s l.at l.counter l.p
