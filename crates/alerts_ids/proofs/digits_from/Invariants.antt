-- `alerts_ids::digits_from` meets its contract.
-- The invariant: the bytes from i on are digits where those from k on are.
use mathlib.Core.Path.{◌≡◌}
use Prim.Native.Nat.{◌-◌}
use lib.ListN.{length, drop}
use Rattle.basics.specs.Lists.{all}
use Rattle.alerts.specs.Text.{digit}
use Rattle.alerts_ids.proofs.digits_from.Given as goal

abbrev pub invariant-loop-k : goal.invariant-loop-k
invariant-loop-k l = all digit (drop l.i l.p) ≡ all digit (drop l.k l.p)

abbrev pub decreases-loop-k : goal.decreases-loop-k
decreases-loop-k l = length l.p - l.k
