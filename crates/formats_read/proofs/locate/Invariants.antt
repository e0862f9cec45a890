-- `locate` meets its contract.
use Prim.Native.Nat.{◌-◌, ◌≤◌}
use Rattle.formats.specs.Promises.Outcome.{format_at}
use Rattle.formats_read.specs.Promises.Fields.{field_to}
use lib.ListN.{length}
use mathlib.Core.Path.{◌≡◌}
use Rattle.formats_read.proofs.locate.Given as goal

abbrev pub invariant-loop : goal.invariant-loop
invariant-loop l =
    (l.p ≤ length l.s)
    × (field_to (l.k - l.counter) (format_at l.d l.t l.n) l.s l.p
    ≡ field_to l.k (format_at l.depth l.t l.node) l.s l.at)
