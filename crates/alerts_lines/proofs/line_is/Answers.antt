-- `alerts_lines::line_is` meets its contract.
use Rattle.alerts_lines.specs.Laws.Kinds.{part_ordered, part_within, line_same}
use Rattle.alerts_lines.proofs.line_is.Goals as goal

pub part_is-requires : goal.part_is-requires
part_is-requires c = search (part_ordered, part_within)

pub returns : goal.returns
returns c = search (line_same)
