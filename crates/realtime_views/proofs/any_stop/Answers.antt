-- `realtime_views::any_stop` meets its contract: a reading of each field, in one walk. Assumes nothing.
use Rattle.realtime_read.specs.Laws.Steps.{step_is}
use Rattle.realtime_views.proofs.Stops.{stops_number, stops_text, stops_arrival}
use Rattle.realtime_views.proofs.Stops.{stops_departure}
use Rattle.realtime_views.proofs.any_stop.Goals as goal

pub loop-field-preserved-else-field-eq-SCHEDULE_RELATIONSHIP :
    goal.loop-field-preserved-else-field-eq-SCHEDULE_RELATIONSHIP
loop-field-preserved-else-field-eq-SCHEDULE_RELATIONSHIP c =
    stops_number c.loop-field.invariant
    (step_is c.next.ensures
    c.in-Number.is) c.if-field-eq-STOP_SEQUENCE.false c.if-field-eq-SCHEDULE_RELATIONSHIP.false

pub loop-field-preserved-else-field-eq-STOP_ID : goal.loop-field-preserved-else-field-eq-STOP_ID
loop-field-preserved-else-field-eq-STOP_ID c =
    stops_text c.loop-field.invariant
    (step_is c.next.ensures c.in-Text.is)
    c.if-field-eq-STOP_ID.false

pub loop-field-preserved-then-field-eq-ARRIVAL : goal.loop-field-preserved-then-field-eq-ARRIVAL
loop-field-preserved-then-field-eq-ARRIVAL c =
    stops_arrival c.loop-field.invariant
    (step_is c.next.ensures
    c.in-Message.is) c.part.result.now
    c.if-field-eq-ARRIVAL.true c.part.ensures c.over_event-arrival.ensures

pub loop-field-preserved-then-field-eq-DEPARTURE : goal.loop-field-preserved-then-field-eq-DEPARTURE
loop-field-preserved-then-field-eq-DEPARTURE c =
    stops_departure c.loop-field.invariant
    (step_is c.next.ensures
    c.in-Message.is) c.part-then-field-eq-DEPARTURE.result.now
    c.if-field-eq-DEPARTURE.true c.part-then-field-eq-DEPARTURE.ensures c.over_event-departure.ensures
