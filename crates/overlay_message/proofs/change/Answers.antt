-- `overlay_message::change` meets its contract, by what the index says. Assumes nothing.
use borrow.Author.Rules.{rules}
use Rattle.overlay_message.specs.Laws.Message.{ready_old, writable, many, exchanged}
use Rattle.overlay_message.proofs.change.Goals as goal

pub leave-requires-clause-old : goal.leave-requires-clause-old
leave-requires-clause-old c = ready_old c.requires.ready c.read_front-front.ensures

pub write_state-requires-clause-writable : goal.write_state-requires-clause-writable
write_state-requires-clause-writable c =
    writable c.requires.ready c.read_front-front.ensures c.leave.ensures c.in-Ok.is

pub returns-in-Err : goal.returns-in-Err
returns-in-Err c =
    many c.requires.ready c.read_front-front.ensures c.leave.ensures c.in-Err.field-0 c.in-Err.is

pub shape_of-keys-in-Ok : goal.shape_of-keys-in-Ok
shape_of-keys-in-Ok c = search (rules, c.keys-1)

pub returns-in-Ok : goal.returns-in-Ok
returns-in-Ok c =
    exchanged c.requires.ready c.read_front-front.ensures c.leave.ensures c.in-Ok.is c.read_back-p.ensures
    c.behind-to.ensures c.write_state.ensures
