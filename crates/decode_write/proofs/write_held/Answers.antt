-- `decode_write::write_held` meets its contract. Assumes nothing.
use native.Mathlib.Omega.{arith}
use Rattle.decode_write.specs.Laws.Records.{new_readable, new_calm, new_adds, old_beyond, old_adds}
use Rattle.decode_write.proofs.write_held.Goals as goal

pub write_record-requires-clause-message_len_bound : goal.write_record-requires-clause-message_len_bound
write_record-requires-clause-message_len_bound c = c.requires.message_len_bound

pub write_record-requires-clause-readable : goal.write_record-requires-clause-readable
write_record-requires-clause-readable c =
    let F = c.requires.fit.0 in
    (new_readable F c.if-from-lt-BEYOND.true, new_calm F c.if-from-lt-BEYOND.true c.requires.fit.1)

pub returns-then-from-lt-BEYOND : goal.returns-then-from-lt-BEYOND
returns-then-from-lt-BEYOND c = new_adds c.requires.fit.0 c.if-from-lt-BEYOND.true c.write_record.ensures

pub overflow_sub-to : goal.overflow_sub-to
overflow_sub-to c = omega (arith, old_beyond c.requires.fit.0 c.if-from-lt-BEYOND.false)

pub returns : goal.returns
returns c = old_adds c.requires.fit.0 c.if-from-lt-BEYOND.false c.stretch.ensures
