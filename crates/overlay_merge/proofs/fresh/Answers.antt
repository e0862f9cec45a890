-- `fresh` meets its contract.
use Rattle.overlay_merge.specs.Laws.Merge.{fresh_is}
use Rattle.overlay_merge.proofs.fresh.Goals as goal

pub returns : goal.returns
returns c =
    let args = c.args in
    fresh_is args.updated args.limit (record { sfits = c.from_zigzag-2.type_inv })
    (record { sfits = c.from_zigzag.type_inv }) c.from_zigzag.ensures c.from_zigzag-2.ensures
