-- `decode::write_key` writes the key. Assumes nothing.
use native.Mathlib.Omega.{arith}
use Rattle.decode.proofs.Writing.{span_length, keyed}
use Rattle.decode.proofs.write_key.Goals as goal

pub add-requires : goal.add-requires
add-requires c =
    let a = c.args in
    let l = span_length a.message.now c.part.result.now a.start a.len c.part.ensures
    c.requires.len_in_bounds.0 in
    omega (arith, c.requires.room.counted, c.requires.room.keyed, c.requires.len_in_bounds.1)

pub returns : goal.returns
returns c =
    let a = c.args in
    let l = span_length a.message.now c.part.result.now a.start a.len c.part.ensures
    c.requires.len_in_bounds.0 in
    rw c.part.ensures at (keyed c.add.ensures (omega (arith, c.requires.len_in_bounds.1)))
