-- `formats_text::utf8` meets its contract.
use Rattle.std.proofs.Common.{◌≡◌, [], ◌-◌, ◌≤◌, length, drop}
use Rattle.formats.specs.Class.{sequences}
use Rattle.formats_text.specs.Promises.Due.{ranges_of}
use Rattle.formats_text.proofs.utf8.Given as goal

abbrev pub invariant-loop-i : goal.invariant-loop-i
invariant-loop-i l = (l.i ≤ length l.v) × (sequences (drop l.i l.v) (ranges_of l.due) ≡ sequences l.v [])

abbrev pub decreases-loop-i : goal.decreases-loop-i
decreases-loop-i l = length l.v - l.i
