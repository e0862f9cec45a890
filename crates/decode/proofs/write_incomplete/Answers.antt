-- `decode::write_incomplete` writes the key of an entity without a trip id. Assumes nothing.
use native.Mathlib.Omega.{arith}
use Rattle.decode.specs.Laws.Written.{then, written_whole}
use Rattle.decode.proofs.Writing.{keyed, spans_head, spans_whole}
use Rattle.decode.proofs.write_incomplete.Goals as goal

pub write_head-p-requires-clause-at_in_bounds : goal.write_head-p-requires-clause-at_in_bounds
write_head-p-requires-clause-at_in_bounds c =
    (omega (arith, c.requires.room.counted, c.requires.room.keyed), c.requires.feed_len_bound)

pub write_head-p-requires-clause-short : goal.write_head-p-requires-clause-short
write_head-p-requires-clause-short c = c.requires.short

pub write_tail-requires : goal.write_tail-requires
write_tail-requires c =
    let a = c.args in
    let l = spans_head a.feed.now a.message.now a.t c.requires.feed_len_bound c.requires.short in
    record {
      at_in_bounds = omega (
        arith,
        c.requires.room.counted,
        c.requires.room.keyed,
        c.write_head-p.ensures.next,
        written_whole c.write_head-p.ensures,
      );
      part_inside = c.requires.short.date;
      part_inside_2 = c.requires.short.time;
    }

pub overflow_sub-result : goal.overflow_sub-result
overflow_sub-result c = omega (arith, c.write_head-p.ensures.next, c.write_tail.ensures.next)

pub shape_of-keys : goal.shape_of-keys
shape_of-keys c = written_whole (then c.write_head-p.ensures c.write_tail.ensures)

pub returns : goal.returns
returns c =
    let a = c.args in
    keyed (then c.write_head-p.ensures c.write_tail.ensures)
    (spans_whole a.feed.now a.message.now a.t c.requires.feed_len_bound c.requires.short)
