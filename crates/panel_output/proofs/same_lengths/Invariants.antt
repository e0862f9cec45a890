-- `panel_output::same_lengths` meets its contract.
use Prim.Native.Nat.{◌-◌}
use lib.ListN.{length}
use borrow.Author.Rules.{rules}
use Rattle.panel_output.specs.Laws.Lengths.{Alike, alike_none, alike_more, alike_other, alike_all}
use Rattle.panel_output.specs.Laws.Lengths.{other_length}
use Rattle.panel_output.proofs.same_lengths.Given as goal

abbrev pub invariant-loop-i : goal.invariant-loop-i
invariant-loop-i l = Alike l.given l.due l.i

abbrev pub decreases-loop-i : goal.decreases-loop-i
decreases-loop-i l = length l.given - l.i
