-- `past_update` meets its contract.
use Rattle.formats_skip.specs.Laws.Passes.{any_small, text_then, optional_signed_then}
use Rattle.decode_skip.proofs.past_update.Goals as goal

pub returns-then-s-a-ge-NUMBERS : goal.returns-then-s-a-ge-NUMBERS
returns-then-s-a-ge-NUMBERS c = search text_then

pub returns : goal.returns
returns c = search (any_small, text_then, optional_signed_then) depth 9
