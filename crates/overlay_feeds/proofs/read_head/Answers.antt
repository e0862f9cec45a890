-- `read_head` meets its contract.
use Rattle.overlay_feeds.specs.Laws.Head.{read_head}
use Rattle.overlay_feeds.proofs.read_head.Goals as goal

pub returns : goal.returns
returns c = search read_head
