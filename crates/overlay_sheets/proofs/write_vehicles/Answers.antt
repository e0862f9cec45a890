-- `write_vehicles` meets its contract.
use Rattle.overlay.specs.Change.{feed_at}
use Rattle.overlay_sheets.specs.Laws.Sheets.{vehicles_written}
use Rattle.overlay_sheets.proofs.write_vehicles.Goals as goal

pub returns : goal.returns
returns c =
    λ s xs clock B R e I k.
    vehicles_written B c.behind-to.ensures c.opening-w1.ensures c.closing.ensures xs clock
    c.read_head.ensures c.wrapping_add_u64-version.ensures.value R
    (λ T. c.vehicles_over-w2.ensures (feed_at c.args.feed.now s) B.till xs clock e T I k)
