-- `alerts_ids::products::idfm_product_to_short` meets its contract.
use Rattle.alerts_ids.specs.Laws.LineCodes.{below, above, worked_out}
use Rattle.alerts_ids.proofs.products.idfm_product_to_short.Goals as goal
use Rattle.alerts_ids.proofs.products.idfm_product_to_short.Goals.{then-n-ge1371+else-n-le1384, else-n-ge1371}

pub returns-then-n-le1384 : goal.returns-then-n-le1384
returns-then-n-le1384 c = search worked_out

pub returns : goal.returns
returns c =
    elim c.if-n-ge1371.branch [ then-n-ge1371+else-n-le1384 w ↦ search (above) | else-n-ge1371 w ↦ search (below) ]
