-- `is_text` meets its contract.
use Rattle.overlay_seek.specs.Laws.Answers.{is_text}
use Rattle.overlay_seek.proofs.is_text.Goals as goal

pub returns : goal.returns
returns c = search is_text
