-- `write_entry` meets its contract.
use Rattle.overlay_merge.specs.Laws.Loops.{put_sheet, put_old, put_none}
use Rattle.overlay_merge.proofs.write_entry.Goals as goal

pub returns-then-t-2 : goal.returns-then-t-2
returns-then-t-2 c = search (put_sheet)

pub returns-then-t : goal.returns-then-t
returns-then-t c = search (put_old)

pub returns : goal.returns
returns c = search (put_none)
