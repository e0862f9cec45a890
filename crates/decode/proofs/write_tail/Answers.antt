-- `decode::write_tail` writes date and time. Assumes nothing.
use native.Mathlib.Omega.{arith}
use Rattle.decode.specs.Laws.Written.{then, written_whole}
use Rattle.decode.proofs.Writing.{span_length, tail_read}
use Rattle.decode.proofs.write_tail.Goals as goal

pub add-b-requires : goal.add-b-requires
add-b-requires c =
    let a = c.args in
    let l = span_length a.message.now c.part.result.now a.date.start a.date.len c.part.ensures
    c.requires.part_inside.0 in
    omega (
      arith,
      c.requires.at_in_bounds,
      c.requires.part_inside.1,
      c.add-a.ensures.next,
      written_whole
          c.add-a.ensures,
    )

pub add-c-requires : goal.add-c-requires
add-c-requires c =
    let a = c.args in
    let l = span_length a.message.now c.part.result.now a.date.start a.date.len
    c.part.ensures c.requires.part_inside.0 in
    omega (
      arith,
      c.requires.at_in_bounds,
      c.requires.part_inside.1,
      c.add-a.ensures.next,
      c.add-b.ensures.next,
      written_whole c.add-a.ensures,
      written_whole c.add-b.ensures,
    )

pub add-requires : goal.add-requires
add-requires c =
    let a = c.args in
    let l = span_length a.message.now c.part.result.now a.date.start a.date.len
    c.part.ensures c.requires.part_inside.0 in
    let m = span_length a.message.now c.part-2.result.now a.time.start a.time.len c.part-2.ensures
    c.requires.part_inside_2.0 in
    omega (
      arith,
      c.requires.at_in_bounds,
      c.requires.part_inside.1,
      c.requires.part_inside_2.1,
      c.add-a.ensures.next,
      c.add-b.ensures.next,
      c.add-c.ensures.next,
      written_whole c.add-a.ensures,
      written_whole c.add-b.ensures,
      written_whole c.add-c.ensures,
    )

pub shape_of-keys : goal.shape_of-keys
shape_of-keys c =
    written_whole (then (then (then c.add-a.ensures c.add-b.ensures) c.add-c.ensures)
    c.add.ensures)

pub returns : goal.returns
returns c =
    tail_read c.part.ensures c.part-2.ensures
    (then (then (then c.add-a.ensures c.add-b.ensures) c.add-c.ensures)
    c.add.ensures)
