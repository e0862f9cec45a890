-- `read_entry` meets its contract.
use Rattle.overlay_merge.specs.Laws.Entry.{entry_read}
use Rattle.overlay_merge.proofs.read_entry.Goals as goal

pub returns : goal.returns
returns c =
    entry_read c.text-key.ensures c.past_optional_text-a.ensures c.past_float-b.ensures
    c.past_float-c.ensures c.number-u.ensures
