-- `past_alert` meets its contract.
use Rattle.formats_skip.specs.Laws.Passes.{any_texts, texts_then, optional_text_then}
use Rattle.alerts_skip.proofs.past_alert.Goals as goal

pub returns : goal.returns
returns c = search (any_texts, texts_then, optional_text_then) depth 9
