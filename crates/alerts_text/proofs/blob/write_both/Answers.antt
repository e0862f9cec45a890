-- `alerts_text::blob::write_both` meets its contract.
use Rattle.alerts_text.proofs.Folding.{both_written}
use Rattle.alerts_text.proofs.blob.write_both.Goals as goal

pub returns : goal.returns
returns c = search (both_written)
