-- `decode_write::count_plain`: the keys of the slots behind it are counted. Assumes nothing.
use Prim.Native.Nat.{◌≤◌}
use mathlib.Core.Path.{◌≡◌}
use Rattle.decode_slots.specs.Index.{index}
use Rattle.decode_write.specs.Promises.Slots.{plain_keys}
use Rattle.decode_write.proofs.count_plain.Given as goal

abbrev pub invariant-loop-slot : goal.invariant-loop-slot
invariant-loop-slot l = (l.count ≤ l.slot-index) × (l.count ≡ plain_keys (index l.keys l.marks l.order l.slot-index))
