-- `alerts_views::header_of` meets its contract: the words at the field that it names. Assumes nothing.
use Rattle.alerts_views.proofs.Wording.{header_worded}
use Rattle.alerts_views.proofs.header_of.Goals as goal

pub words-requires-clause-len_in_bounds : goal.words-requires-clause-len_in_bounds
words-requires-clause-len_in_bounds c = c.requires

pub words-requires-clause-worded : goal.words-requires-clause-worded
words-requires-clause-worded c = header_worded
