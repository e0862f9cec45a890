-- `decode_write::put_updates`: the updates of the lines behind it are written. Assumes nothing.
use native.Mathlib.Omega.{arith}
use Rattle.formats_write.specs.Laws.Adds.{none}
use Rattle.decode_write.specs.Laws.Written.{updates_more, update_readable, updates_done}
use Rattle.decode_write.proofs.put_updates.Goals as goal

pub loop-i-init : goal.loop-i-init
loop-i-init c = (omega arith, none)

pub write_update-q-requires : goal.write_update-q-requires
write_update-q-requires c =
    update_readable c.args.message.now c.args.updates.now c.requires.all c.loop-i.i
    c.loop-i-test.true
    c.word-from.ensures c.word-to.ensures

pub loop-i-preserved : goal.loop-i-preserved
loop-i-preserved c = (
  omega arith,
  updates_more c.args.message.now c.args.updates.now c.loop-i.i c.word-from.ensures
      c.word-to.ensures c.loop-i.invariant.1 c.write_update-q.ensures,
)

pub returns : goal.returns
returns c =
    updates_done c.args.message.now c.args.updates.now c.loop-i.invariant.0 c.loop-i-test.false
    c.loop-i.invariant.1
