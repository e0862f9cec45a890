-- `alerts_ids::is_tram_like` meets its contract.
use Rattle.alerts.specs.Text.{text}
use Rattle.alerts_ids.specs.Laws.Names.{tram_word, tram_last}
use Rattle.alerts_ids.proofs.is_tram_like.Goals as goal

pub returns-then-same_ignoring_case : goal.returns-then-same_ignoring_case
returns-then-same_ignoring_case c = search (tram_word (text "TRAM"))

pub returns-then-same_ignoring_case-2 : goal.returns-then-same_ignoring_case-2
returns-then-same_ignoring_case-2 c = search (tram_word (text "TRAMWAY"))

pub returns : goal.returns
returns c = search (tram_last)
