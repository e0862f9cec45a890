-- `descriptor_is` meets its contract.
use Rattle.overlay_find.specs.Laws.Tests.{described_is}
use Rattle.overlay_find.proofs.descriptor_is.Goals as goal

pub returns : goal.returns
returns c = search described_is
