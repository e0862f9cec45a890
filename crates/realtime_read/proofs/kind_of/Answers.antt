-- `realtime_read::kind_of` meets its contract: a field's five bits of the row are the code of what the schema lists.
use mathlib.Core.Path.{sym, ap}
use native.Mathlib.Omega.{arith}
use Rattle.realtime.proofs.Laws.Schema.{feed_beyond}
use Rattle.realtime_read.specs.Promises.Schema.{holds}
use Rattle.realtime_read.proofs.Rows.{coded, none_of, number_of, text_of, message_of}
use Rattle.realtime_read.proofs.kind_of.Goals as goal

pub returns-then-field-ge-FIELDS : goal.returns-then-field-ge-FIELDS
returns-then-field-ge-FIELDS c = sym (ap holds (feed_beyond _ _ c.if-field-ge-FIELDS.true))

pub returns-in-0 : goal.returns-in-0
returns-in-0 c = none_of _ (coded c.args.message c.args.field c.row_of.ensures c.if-field-ge-FIELDS.false)
    c.in-0.is

pub returns-in-1 : goal.returns-in-1
returns-in-1 c = number_of _ (coded c.args.message c.args.field c.row_of.ensures c.if-field-ge-FIELDS.false)
    c.in-1.is

pub returns-in-2 : goal.returns-in-2
returns-in-2 c = text_of _ (coded c.args.message c.args.field c.row_of.ensures c.if-field-ge-FIELDS.false)
    c.in-2.is

pub returns-in_default : goal.returns-in_default
returns-in_default c =
    message_of _ (coded c.args.message c.args.field c.row_of.ensures c.if-field-ge-FIELDS.false)
    (omega arith) (omega arith) (omega arith)
