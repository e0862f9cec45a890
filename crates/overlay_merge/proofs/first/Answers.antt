-- `first` meets its contract.
use Rattle.overlay_merge.specs.Laws.Merge.{first_more, first_less, first_lex}
use Rattle.overlay_merge.proofs.first.Goals as goal

pub returns-then-n-eq0 : goal.returns-then-n-eq0
returns-then-n-eq0 c = search (first_more)

pub returns-then-m-eq0 : goal.returns-then-m-eq0
returns-then-m-eq0 c = search (first_less)

pub returns : goal.returns
returns c = search (first_lex)
