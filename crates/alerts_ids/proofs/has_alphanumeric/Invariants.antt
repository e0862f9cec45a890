-- `alerts_ids::has_alphanumeric` meets its contract. The invariant: one is there where one is from i on.
use mathlib.Core.Path.{◌≡◌}
use Prim.Native.Nat.{◌-◌}
use lib.ListN.{length, drop}
use Rattle.basics.specs.Lists.{any}
use Rattle.alerts.specs.Text.{alphanumeric}
use Rattle.alerts_ids.proofs.has_alphanumeric.Given as goal

abbrev pub invariant-loop-i : goal.invariant-loop-i
invariant-loop-i l = any alphanumeric l.p ≡ any alphanumeric (drop l.i l.p)

abbrev pub decreases-loop-i : goal.decreases-loop-i
decreases-loop-i l = length l.p - l.i
