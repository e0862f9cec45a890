-- `past_long` meets its contract.
use Rattle.formats_skip.specs.Laws.Number.{scan_start, scan_on, scan_low, scan_out}
use Rattle.formats_skip.proofs.past_long.Goals as goal

pub loop-p-init : goal.loop-p-init
loop-p-init c = scan_start

pub returns-then-s-p-lt128 : goal.returns-then-s-p-lt128
returns-then-s-p-lt128 c = search scan_low

pub loop-p-preserved : goal.loop-p-preserved
loop-p-preserved c = search scan_on

pub returns : goal.returns
returns c = search scan_out
