-- `stop_fits` meets its contract.
use Rattle.overlay_ids.specs.Laws.Fits.{stop_absent, stop_short, stop_even}
use Rattle.overlay_ids.proofs.stop_fits.Goals as goal

pub returns-then-id-eq0 : goal.returns-then-id-eq0
returns-then-id-eq0 c = search stop_absent

pub returns-then-stop-id : goal.returns-then-stop-id
returns-then-stop-id c = search stop_short

pub returns-then-stop-id-2 : goal.returns-then-stop-id-2
returns-then-stop-id-2 c = search stop_even
