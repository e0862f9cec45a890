-- `alerts_ids::is_rail_like_mode` meets its contract.
use Rattle.alerts.specs.Text.{text}
use Rattle.alerts_ids.specs.Laws.Names.{rail_word, rail_last}
use Rattle.alerts_ids.proofs.is_rail_like_mode.Goals as goal

pub returns-then-same_ignoring_case : goal.returns-then-same_ignoring_case
returns-then-same_ignoring_case c = search (rail_word (text "RAIL"))

pub returns-then-same_ignoring_case-2 : goal.returns-then-same_ignoring_case-2
returns-then-same_ignoring_case-2 c = search (rail_word (text "TRAIN"))

pub returns-then-same_ignoring_case-3 : goal.returns-then-same_ignoring_case-3
returns-then-same_ignoring_case-3 c = search (rail_word (text "METRO"))

pub returns-then-same_ignoring_case-4 : goal.returns-then-same_ignoring_case-4
returns-then-same_ignoring_case-4 c = search (rail_word (text "SUBWAY"))

pub returns : goal.returns
returns c = search (rail_last)
