-- `alerts_apply::known::begin` meets its contract.
use native.Mathlib.Omega.{arith}
use lib.ListN.{length-set}
use Rattle.alerts_apply.specs.Laws.Known.{begun_same, begun_new}
use Rattle.alerts_apply.proofs.known.begin.Goals as goal

pub returns-then-known-i : goal.returns-then-known-i
returns-then-known-i c = search (begun_same)

pub bounds-known-i-3 : goal.bounds-known-i-3
bounds-known-i-3 c = simp length-set (omega arith)

pub bounds-known-i-4 : goal.bounds-known-i-4
bounds-known-i-4 c = simp length-set (omega arith)

pub returns : goal.returns
returns c = search (begun_new)
