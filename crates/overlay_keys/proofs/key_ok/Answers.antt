-- `overlay_keys::key_ok` meets its contract.
use Rattle.overlay_keys.specs.Laws.Keys.{key_empty, key_long, key_raw}
use Rattle.overlay_keys.proofs.key_ok.Goals as goal

pub returns-then-n-eq0 : goal.returns-then-n-eq0
returns-then-n-eq0 c = search key_empty

pub returns-then-n-gt64 : goal.returns-then-n-gt64
returns-then-n-gt64 c = search key_long

pub returns : goal.returns
returns c = search key_raw
