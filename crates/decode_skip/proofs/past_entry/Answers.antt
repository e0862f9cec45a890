-- `past_entry` meets its contract.
use Rattle.formats_skip.specs.Laws.Passes.{text_then}
use Rattle.decode_skip.proofs.past_entry.Goals as goal

pub returns : goal.returns
returns c = search text_then
