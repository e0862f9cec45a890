-- `by_update` meets its contract.
use Rattle.journey_times.specs.Laws.Places.{by_arrival, by_departure}
use Rattle.journey_times.proofs.by_update.Goals as goal

pub returns-in-Arrival : goal.returns-in-Arrival
returns-in-Arrival c =
    by_arrival c.ranges.at c.text-first.ensures c.event_at-arrival.ensures c.past_event.ensures
    c.event_at-departure.ensures c.optional_delay-trip.ensures c.in-Arrival.is c.event_by.ensures

pub returns-in-Departure : goal.returns-in-Departure
returns-in-Departure c =
    by_departure c.ranges.at c.text-first.ensures c.event_at-arrival.ensures c.past_event.ensures
    c.event_at-departure.ensures c.optional_delay-trip.ensures c.in-Departure.is c.event_by-in-Departure.ensures
