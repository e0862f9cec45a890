-- `alerts_ids::products::write_name` meets its contract. The invariant: the first i bytes of the name are written.
use Rattle.std.proofs.Common.{◌≡◌}
use Rattle.std.proofs.Math.Seq.{paste}
use Rattle.alerts_ids.proofs.products.write_name.Given as goal

abbrev pub invariant-loop-i : goal.invariant-loop-i
invariant-loop-i l = l.out ≡ paste l.initial.out 0 l.name l.i
