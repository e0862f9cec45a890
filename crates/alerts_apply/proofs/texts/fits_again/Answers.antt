-- `alerts_apply::texts::fits_again` meets its contract.
use Rattle.alerts_apply.specs.Laws.Words.{again_right, again_wrong, again_open}
use Rattle.alerts_apply.proofs.texts.fits_again.Goals as goal

pub returns-in-Right : goal.returns-in-Right
returns-in-Right c = search (again_right)

pub returns-in-Wrong : goal.returns-in-Wrong
returns-in-Wrong c = search (again_wrong)

pub returns-in-Open : goal.returns-in-Open
returns-in-Open c = search (again_open)
