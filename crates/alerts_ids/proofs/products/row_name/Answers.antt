-- `alerts_ids::products::row_name` meets its contract.
use Rattle.alerts_ids.specs.Laws.Products.{name_room, row_wrote}
use Rattle.alerts_ids.proofs.products.row_name.Goals as goal

pub write_name-requires : goal.write_name-requires
write_name-requires c = search (name_room)

pub returns : goal.returns
returns c = search (row_wrote)
