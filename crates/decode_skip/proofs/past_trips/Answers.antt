-- `past_trips` meets its contract.
use Rattle.decode_skip.proofs.Counting.{counting, counting_on, counted}
use Rattle.decode_skip.proofs.past_trips.Goals as goal

pub loop-init : goal.loop-init
loop-init c = counting

pub loop-preserved : goal.loop-preserved
loop-preserved c = search counting_on

pub returns : goal.returns
returns c = search counted
