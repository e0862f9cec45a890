-- `alerts_views::text_of` meets its contract, by the kind of the scalar. Assumes nothing.
use borrow.Author.Rules.{rules}
use mathlib.Core.Path.{sym, ap}
use Rattle.alerts_views.proofs.Wording.{to_text, text_read, text_room}
use Rattle.alerts_views.proofs.text_of.Goals as goal

pub overflow_add-result : goal.overflow_add-result
overflow_add-result c = search (rules, text_room c.scalar_at.ensures c.in-Text.is)

pub returns-in-Text : goal.returns-in-Text
returns-in-Text c = text_read c.scalar_at.ensures (ap to_text (sym c.in-Text.is))

pub returns-in-Number : goal.returns-in-Number
returns-in-Number c = text_read c.scalar_at.ensures (ap to_text (sym c.in-Number.is))

pub returns-in-Nothing : goal.returns-in-Nothing
returns-in-Nothing c = text_read c.scalar_at.ensures (ap to_text (sym c.in-Nothing.is))
