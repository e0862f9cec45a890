-- `alerts_label::characters_end` meets its contract. The invariant: the characters are the bytes passed and those
-- that are left.
use mathlib.Core.Path.{sym, ◌∙◌}
use native.Mathlib.Omega.{arith}
use Rattle.alerts_label.proofs.Characters.{start, goes_on, begins, stops, ended}
use Rattle.alerts_label.proofs.characters_end.Goals as goal
use Rattle.alerts_label.proofs.characters_end.Goals.{then-not-goes_on+else-left-eq0, else-not-goes_on}

pub loop-i-init : goal.loop-i-init
loop-i-init c = start _ _

pub returns-then-left-eq0 : goal.returns-then-left-eq0
returns-then-left-eq0 c =
    stops _ _ _ _ c.loop-i.invariant
    c.loop-i-test.true
    (sym c.goes_on.ensures ∙ c.if-not-goes_on.true) c.if-left-eq0.true

pub loop-i-preserved : goal.loop-i-preserved
loop-i-preserved c =
    let inv = c.loop-i.invariant in
    let more = c.loop-i-test.true in
    let told = c.goes_on.ensures in
    elim c.if-not-goes_on.branch [
      | then-not-goes_on+else-left-eq0 w ↦
          rw w.left-is (begins _ _ _ _ inv more (sym told ∙ w.if-not-goes_on.true) (omega arith))
      | else-not-goes_on w ↦ rw w.left-is (goes_on _ _ _ _ inv more (sym told ∙ w.if-not-goes_on.false))
    ]

pub returns : goal.returns
returns c = search (ended)
