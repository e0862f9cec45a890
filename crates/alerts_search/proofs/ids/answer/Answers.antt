-- `alerts_search::ids::answer` meets its contract.
use Rattle.alerts_search.specs.Laws.Ids.{asked_meets_trip, asked_meets_route, asked_meets_stops}
use Rattle.alerts_search.specs.Laws.Ids.{asked_hits_trip, asked_hits_route, asked_hits_stops}
use Rattle.alerts_search.proofs.ids.answer.Goals as goal

pub returns-in-MeetsTrip : goal.returns-in-MeetsTrip
returns-in-MeetsTrip c = search (asked_meets_trip)

pub returns-in-MeetsRoute : goal.returns-in-MeetsRoute
returns-in-MeetsRoute c = search (asked_meets_route)

pub returns-in-MeetsStops : goal.returns-in-MeetsStops
returns-in-MeetsStops c = search (asked_meets_stops)

pub returns-in-HitsTrip : goal.returns-in-HitsTrip
returns-in-HitsTrip c = search (asked_hits_trip)

pub returns-in-HitsRoute : goal.returns-in-HitsRoute
returns-in-HitsRoute c = search (asked_hits_route)

pub returns-in-HitsStops : goal.returns-in-HitsStops
returns-in-HitsStops c = search (asked_hits_stops)
