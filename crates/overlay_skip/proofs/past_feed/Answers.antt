-- `past_feed` meets its contract.
use Rattle.formats_skip.specs.Laws.Passes.{pair, number_then, optional_signed_then}
use Rattle.overlay_skip.proofs.past_feed.Goals as goal

pub returns : goal.returns
returns c = search (pair, number_then, optional_signed_then) depth 9
