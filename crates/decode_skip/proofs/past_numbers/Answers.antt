-- `past_numbers` meets its contract.
use Rattle.formats_skip.specs.Laws.Passes.{any_small, optional_signed_then, near_passes}
use Rattle.decode_skip.proofs.past_numbers.Goals as goal

pub returns : goal.returns
returns c = search (any_small, optional_signed_then, near_passes) depth 12
