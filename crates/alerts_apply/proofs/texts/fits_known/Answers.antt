-- `alerts_apply::texts::fits_known` meets its contract.
use native.Mathlib.Omega.{arith}
use lib.ListN.{length-set}
use Rattle.alerts_apply.specs.Laws.Words.{known_again, known_first}
use Rattle.alerts_apply.proofs.texts.fits_known.Goals as goal

pub returns-then-words-eq1 : goal.returns-then-words-eq1
returns-then-words-eq1 c = search (known_again)

pub bounds-words-1-2 : goal.bounds-words-1-2
bounds-words-1-2 c = simp length-set (omega arith)

pub returns : goal.returns
returns c = search (known_first)
