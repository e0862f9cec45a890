-- `formats_check::printables_from` meets its contract.
use Prim.Native.Nat.{◌-◌, ◌≤◌}
use Rattle.formats.specs.Class.{printable}
use Rattle.formats.specs.Format.{text}
use Rattle.formats_check.specs.Laws.Walks.{Eaching}
use lib.ListN.{length}
use Rattle.formats_check.proofs.printables_from.Given as goal

abbrev pub invariant-loop : goal.invariant-loop
invariant-loop l = (l.p ≤ length l.s) × Eaching (text l.limit printable) l.n l.s l.at (l.n - l.counter) l.p
