-- `overlay_records::alerts_from` meets its contract.
use Prim.Native.Nat.{◌≤◌, ◌-◌}
use lib.ListN.{length}
use Rattle.formats_check.specs.Laws.Walks.{Eaching}
use Rattle.alerts.specs.Alert.{alert}
use Rattle.overlay_records.proofs.alerts_from.Given as goal

abbrev pub invariant-loop : goal.invariant-loop
invariant-loop l = (l.p ≤ length l.old) × Eaching alert l.n l.old l.at (l.n - l.counter) l.p
