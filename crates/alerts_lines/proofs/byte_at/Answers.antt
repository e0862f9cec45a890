-- `alerts_lines::byte_at` meets its contract.
use Rattle.alerts_lines.specs.Laws.Marking.{byte_past}
use Rattle.alerts_lines.proofs.byte_at.Goals as goal

pub returns-else-i-s : goal.returns-else-i-s
returns-else-i-s c = search (byte_past)
