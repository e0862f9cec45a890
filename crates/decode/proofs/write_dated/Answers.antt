-- `decode::write_dated` writes the raw trip id and the date. Assumes nothing.
use native.Mathlib.Omega.{arith}
use Rattle.decode.specs.Laws.Written.{written_whole}
use Rattle.decode.proofs.Writing.{span_length, joined, keyed_dated}
use Rattle.decode.proofs.write_dated.Goals as goal

pub add-p-requires : goal.add-p-requires
add-p-requires c =
    let a = c.args in
    let l = span_length a.message.now c.part.result.now a.t.id.start a.t.id.len c.part.ensures
    c.requires.short.id.0 in
    omega (arith, c.requires.room.counted, c.requires.room.keyed, c.requires.short.id.1)

pub add_byte-q-requires : goal.add_byte-q-requires
add_byte-q-requires c =
    let a = c.args in
    let l = span_length a.message.now c.part.result.now a.t.id.start a.t.id.len
    c.part.ensures c.requires.short.id.0 in
    omega (
      arith,
      c.requires.room.counted,
      c.requires.room.keyed,
      c.requires.short.id.1,
      c.add-p.ensures.next,
      written_whole c.add-p.ensures,
    )

pub part-requires-2 : goal.part-requires-2
part-requires-2 c = omega (arith, c.requires.short.date.0)

pub add-requires : goal.add-requires
add-requires c =
    let a = c.args in
    let l = span_length a.message.now c.part.result.now a.t.id.start a.t.id.len
    c.part.ensures c.requires.short.id.0 in
    let m = span_length a.message.now c.part-2.result.now a.t.date.start a.t.date.len
    c.part-2.ensures c.requires.short.date.0 in
    omega (
      arith,
      c.requires.room.counted,
      c.requires.room.keyed,
      c.requires.short.id.1,
      c.requires.short.date.1,
      c.add-p.ensures.next,
      c.add_byte-q.ensures.next,
      written_whole c.add-p.ensures,
      written_whole c.add_byte-q.ensures,
    )

pub overflow_sub-result : goal.overflow_sub-result
overflow_sub-result c = omega (arith, c.add-p.ensures.next, c.add_byte-q.ensures.next, c.add.ensures.next)

pub shape_of-keys : goal.shape_of-keys
shape_of-keys c = written_whole (joined 64 c.add-p.ensures c.add_byte-q.ensures c.add.ensures)

pub returns : goal.returns
returns c =
    let a = c.args in
    let l = span_length a.message.now c.part.result.now a.t.id.start a.t.id.len
    c.part.ensures c.requires.short.id.0 in
    let m = span_length a.message.now c.part-2.result.now a.t.date.start a.t.date.len
    c.part-2.ensures c.requires.short.date.0 in
    keyed_dated c.part.ensures c.part-2.ensures (omega (arith, c.requires.short.id.1))
    (omega (arith, c.requires.short.date.1)) c.add-p.ensures c.add_byte-q.ensures
    c.add.ensures
