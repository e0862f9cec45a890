-- `overlay_keyed::trips_from` meets its contract.
use Prim.Native.Nat.{◌≤◌, ◌-◌}
use lib.ListN.{length}
use Rattle.formats.specs.Class.{printable}
use Rattle.formats_check.specs.Laws.Climbing.{by_key, known, Climbing}
use Rattle.overlay_noted.specs.Laws.Entries.{Noting}
use Rattle.overlay_keyed.specs.Promises.Trips.{entry_good, plain, is_count}
use Rattle.overlay_keyed.proofs.trips_from.Given as goal

abbrev pub invariant-loop : goal.invariant-loop
invariant-loop l =
    (l.p ≤ length l.old) × (l.b ≤ l.d) × (l.d ≤ length l.old) × (l.m ≤ l.counter)
    × Climbing 137 printable (entry_good l.feed) (by_key (plain l.feed)) (is_count l.c l.n) l.n l.old l.at
    (known l.first l.old l.b l.d) l.m (l.n - l.counter) l.p
    × Noting l.old l.at l.n l.base l.initial.noted l.p l.i (l.n - l.counter) l.noted
