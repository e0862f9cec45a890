-- `alerts_text::blob::text_fits` meets its contract.
use Rattle.alerts_text.proofs.Folding.{fits_empty, fits_first}
use Rattle.alerts_text.proofs.blob.text_fits.Goals as goal

pub returns-then-short-eq0 : goal.returns-then-short-eq0
returns-then-short-eq0 c = search (fits_empty)

pub returns : goal.returns
returns c = search (fits_first)
