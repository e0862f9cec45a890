-- `alerts_text::word::spread` meets its contract.
use Rattle.alerts_text.specs.Laws.Word.{spread_start, spread_more, spread_end}
use Rattle.alerts_text.proofs.word.spread.Goals as goal

pub loop-k-init : goal.loop-k-init
loop-k-init c = search (spread_start)

pub loop-k-preserved : goal.loop-k-preserved
loop-k-preserved c = search (spread_more)

pub returns : goal.returns
returns c = search (spread_end)
