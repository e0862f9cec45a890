-- `alerts_apply::applies::is_clear` meets its contract.
use Rattle.alerts_apply.specs.Laws.Hits.{clear_mode, clear_road}
use Rattle.alerts_apply.proofs.applies.is_clear.Goals as goal

pub returns-then-not-is_rail_like_mode : goal.returns-then-not-is_rail_like_mode
returns-then-not-is_rail_like_mode c = search (clear_mode)

pub returns : goal.returns
returns c = search (clear_road)
