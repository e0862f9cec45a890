-- `precedes` meets its contract.
use Rattle.overlay_ascends.specs.Laws.Ascends.{precedes_by}
use Rattle.overlay_ascends.proofs.precedes.Goals as goal

pub returns : goal.returns
returns c =
    let P = c.requires in
    search (precedes_by, P.a_le_e.0, P.a_le_e.1, P.b_le_f.0, P.b_le_f.1)
