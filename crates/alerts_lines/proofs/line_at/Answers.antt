-- `alerts_lines::line_at` meets its contract.
use Rattle.alerts_lines.specs.Laws.Kinds.{part_ordered, part_within, line_begins}
use Rattle.alerts_lines.proofs.line_at.Goals as goal

pub part_at-requires : goal.part_at-requires
part_at-requires c = search (part_ordered, part_within)

pub returns : goal.returns
returns c = search (line_begins)
