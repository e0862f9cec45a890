-- `past_text` meets its contract.
use Rattle.formats_skip.specs.Laws.Passes.{read_text}
use Rattle.formats_skip.proofs.past_text.Goals as goal

pub returns : goal.returns
returns c = search read_text
