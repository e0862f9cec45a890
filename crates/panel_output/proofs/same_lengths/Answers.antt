-- `panel_output::same_lengths` meets its contract.
use Prim.Native.Nat.{◌-◌}
use lib.ListN.{length}
use borrow.Author.Rules.{rules}
use Rattle.panel_output.specs.Laws.Lengths.{Alike, alike_none, alike_more, alike_other, alike_all}
use Rattle.panel_output.specs.Laws.Lengths.{other_length}
use Rattle.panel_output.proofs.same_lengths.Goals as goal

pub returns-then-given-due : goal.returns-then-given-due
returns-then-given-due c = let a = c.args in other_length a.given.now a.due.now c.if-given-due.true

pub loop-i-init : goal.loop-i-init
loop-i-init c = alike_none c.if-given-due.false

pub returns-then-given-i : goal.returns-then-given-i
returns-then-given-i c = search alike_other

pub loop-i-preserved : goal.loop-i-preserved
loop-i-preserved c = search alike_more

pub returns : goal.returns
returns c = search alike_all
