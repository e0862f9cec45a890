-- `overlay_keys::dated` meets its contract.
use Rattle.overlay_keys.specs.Laws.Keys.{dated_long, dated_mark, dated_none, dated_other, dated_short, dated_so}
use Rattle.overlay_keys.specs.Laws.Piece.{piece_inside}
use Rattle.overlay_keys.proofs.dated.Goals as goal

pub returns-then-m-eq0 : goal.returns-then-m-eq0
returns-then-m-eq0 c = search dated_none

pub returns-then-n-m : goal.returns-then-n-m
returns-then-n-m c = search dated_short

pub returns-then-m-n : goal.returns-then-m-n
returns-then-m-n c = search dated_long

pub returns-in_default : goal.returns-in_default
returns-in_default c = search dated_mark

pub piece-requires : goal.piece-requires
piece-requires c = search piece_inside

pub returns-in_default-piece : goal.returns-in_default-piece
returns-in_default-piece c = search dated_other

pub returns : goal.returns
returns c = search dated_so
