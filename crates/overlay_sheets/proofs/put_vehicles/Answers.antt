-- `put_vehicles` meets its contract.
use Rattle.overlay_sheets.specs.Laws.Sheets.{vehicles_many, vehicles_few}
use Rattle.overlay_sheets.proofs.put_vehicles.Goals as goal

pub returns-then-kept-gt1024 : goal.returns-then-kept-gt1024
returns-then-kept-gt1024 c =
    λ s xs clock B e I.
    vehicles_many B xs clock e I c.read_parts-p.ensures c.count_left-kept.ensures c.if-kept-gt1024.true

pub returns : goal.returns
returns c =
    λ s xs clock B e I.
    let R = c.read_parts-p.ensures in
    vehicles_few B xs clock e I R c.count_left-kept.ensures c.if-kept-gt1024.false
    (λ J k. c.write_vehicles.ensures s xs clock B R e J k)
