-- `alerts_ids::piece_start` meets its contract. The invariant: from a up to e there is no cut.
use Rattle.alerts_ids.specs.Laws.Pieces.{uncut_start, uncut_more, cut_found, uncut_whole}
use Rattle.alerts_ids.proofs.piece_start.Goals as goal

pub loop-a-init : goal.loop-a-init
loop-a-init c = search (uncut_start)

pub returns-then-is_cut : goal.returns-then-is_cut
returns-then-is_cut c = search (cut_found)

pub loop-a-preserved : goal.loop-a-preserved
loop-a-preserved c = search (uncut_more)

pub returns : goal.returns
returns c = search (uncut_whole)
