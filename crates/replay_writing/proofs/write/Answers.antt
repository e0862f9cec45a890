-- `replay_writing::write` meets its contract.
use Rattle.replay_writing.specs.Laws.Kinds.{fresh_writes, message_writes, alerts_write, vehicles_write}
use Rattle.replay_writing.specs.Laws.Kinds.{other_kind}
use borrow.Author.Rules.{rules}
use Rattle.replay_writing.proofs.write.Goals as goal

pub returns-then-kind-eq0 : goal.returns-then-kind-eq0
returns-then-kind-eq0 c = fresh_writes c.if-kind-eq0.true c.fresh.ensures

pub returns-then-kind-eq1 : goal.returns-then-kind-eq1
returns-then-kind-eq1 c = message_writes c.if-kind-eq1.true c.message.ensures

pub returns-then-kind-eq2 : goal.returns-then-kind-eq2
returns-then-kind-eq2 c = alerts_write c.if-kind-eq2.true c.alert_sheet.ensures

pub returns-then-kind-eq3 : goal.returns-then-kind-eq3
returns-then-kind-eq3 c = vehicles_write c.if-kind-eq3.true c.vehicle_sheet.ensures

pub returns : goal.returns
returns c = other_kind c.if-kind-eq0.false c.if-kind-eq1.false c.if-kind-eq2.false c.if-kind-eq3.false
