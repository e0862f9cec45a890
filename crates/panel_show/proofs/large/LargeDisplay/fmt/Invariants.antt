-- `panel_show::large::Large` is shown in five rows: the shifts stay in range. Assumes nothing.
use Rattle.std.proofs.Common.{◌<◌}
use Rattle.panel_show.proofs.large.LargeDisplay.fmt.Given as goal

abbrev pub invariant-loop-letter : goal.invariant-loop-letter
invariant-loop-letter g l = l.row < 5

abbrev pub invariant-loop-column : goal.invariant-loop-column
invariant-loop-column g l = l.row < 5
