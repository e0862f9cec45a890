-- `formats_text::all_printable` meets its contract.
use Rattle.std.proofs.Common.{length}
use Rattle.formats_text.proofs.Bytes.{Passed}
use Rattle.formats.specs.Class.{printable, allowed}
use Rattle.formats_text.proofs.all_printable.Given as goal

abbrev pub invariant-loop-block : goal.invariant-loop-block
invariant-loop-block l = Passed (allowed printable) l.v l.left

abbrev pub decreases-loop-block : goal.decreases-loop-block
decreases-loop-block l = length l.left
