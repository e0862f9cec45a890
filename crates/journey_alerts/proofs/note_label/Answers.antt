-- `note_label` meets its contract.
use Rattle.journey_alerts.specs.Laws.Notes.{added_empty, added_full, added_one}
use borrow.Author.Rules.{rules}
use Rattle.journey_alerts.proofs.note_label.Goals as goal

pub returns-then-to-from : goal.returns-then-to-from
returns-then-to-from c = added_empty (search rules) (search rules)

pub returns-then-n-gt1024 : goal.returns-then-n-gt1024
returns-then-n-gt1024 c = search added_full

pub returns : goal.returns
returns c = search added_one
