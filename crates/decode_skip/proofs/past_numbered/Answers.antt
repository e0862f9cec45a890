-- `past_numbered` meets its contract.
use Rattle.formats_skip.specs.Laws.Passes.{number_then}
use Rattle.decode_skip.proofs.past_numbered.Goals as goal

pub returns : goal.returns
returns c = search number_then
