-- `alerts_text::lines::other_subject` meets its contract.
use Rattle.alerts_text.proofs.Naming.{others}
use Rattle.alerts_text.proofs.lines.other_subject.Goals as goal

pub returns : goal.returns
returns c = search (others)
