-- `events_at` meets its contract.
use Rattle.journey_stops.specs.Laws.Stops.{events_in}
use Rattle.journey_stops.proofs.events_at.Goals as goal

pub returns : goal.returns
returns c =
    events_in (record { sfits = c.scheduled-a.type_inv }) (record {
      sfits = c.scheduled-d.type_inv;
    }) c.scheduled-a.ensures
    c.past_number.ensures c.scheduled-d.ensures c.apply_time.ensures c.apply_time-2.ensures
