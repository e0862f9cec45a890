-- `decode_updates::note`: over an old update's place, or between the others. Assumes nothing.
use native.Mathlib.Omega.{arith}
use Rattle.decode_updates.proofs.Noting.{rank_most, notes_over, notes_into}
use Rattle.decode_updates.proofs.note.Goals as goal

pub mark-requires : goal.mark-requires
mark-requires c =
    let h = rank_most c.args.updates.now c.args.n c.requires.lined c.args.sequence in
    omega (arith, c.place_of-r.ensures, c.requires.lined.long, c.requires.n_le_most_updates)

pub returns-then-is_at : goal.returns-then-is_at
returns-then-is_at c =
    let a = c.args in
    notes_over a.updates.now a.n c.requires.lined a.sequence c.place_of-r.result a.from
    a.to c.is_at.result c.mark.new.marks c.place_of-r.ensures
    c.is_at.ensures c.if-is_at.true c.mark.ensures

pub line-requires : goal.line-requires
line-requires c =
    let h = rank_most c.args.updates.now c.args.n c.requires.lined c.args.sequence in
    (omega (arith, c.place_of-r.ensures), c.requires.n_le_most_updates, c.requires.lined.long)

pub returns : goal.returns
returns c =
    let a = c.args in
    notes_into a.updates.now a.n c.requires.lined a.sequence a.from a.to
    c.place_of-r.result c.is_at.result c.line.new.updates
    c.place_of-r.ensures c.is_at.ensures c.if-is_at.false c.requires.n_le_most_updates
    c.line.ensures
