-- Promise. Where the parts of a card and of a transit leg stand.
use Rattle.std.specs.Prelude.{List, ℕ}
use Rattle.formats_read.specs.Promises.Fields.{part}
use Rattle.formats_skip.specs.Promises.Passes.{Leads}
use Rattle.journey.specs.Card.{transit, card}
use Rattle.journey_places.specs.declared.CardPlaces.{CardPlaces}
use Rattle.journey_places.specs.declared.ChangingPlaces.{ChangingPlaces}
use Rattle.journey_places.specs.declared.LegPlaces.{LegPlaces}
use Rattle.journey_places.specs.declared.StopPlaces.{StopPlaces}

-- of the leg at p, from its first stop on
pub record StopsAt (s : List ℕ) (p : ℕ) (r : StopPlaces) : Type 0 where
  pub to : Leads 1 (part 5 transit) s p r.to
  pub board : Leads 2 (part 5 transit) s p r.board
  pub alight : Leads 3 (part 5 transit) s p r.alight
  pub departure : Leads 4 (part 5 transit) s p r.departure
  pub arrival : Leads 5 (part 5 transit) s p r.arrival
  pub realtime : Leads 6 (part 5 transit) s p r.realtime

-- of the leg at p, and of the card at p
pub record LegAt (s : List ℕ) (p : ℕ) (r : LegPlaces) : Type 0 where
  pub short : Leads 1 transit s p r.short
  pub route : Leads 2 transit s p r.route
  pub trip : Leads 3 transit s p r.trip
  pub direction : Leads 4 transit s p r.direction
  pub from : Leads 5 transit s p r.from
  pub to : Leads 6 transit s p r.to
  pub board : Leads 7 transit s p r.board
  pub alight : Leads 8 transit s p r.alight
  pub departure : Leads 9 transit s p r.departure
  pub arrival : Leads 10 transit s p r.arrival
  pub realtime : Leads 11 transit s p r.realtime

pub record CardAt (s : List ℕ) (p : ℕ) (r : CardPlaces) : Type 0 where
  pub departure : Leads 1 card s p r.departure
  pub arrival : Leads 2 card s p r.arrival
  pub legs : Leads 6 card s p r.legs

-- the parts of the leg at p that may change: each is led to from the one before it
pub record ChangingAt (s : List ℕ) (p : ℕ) (r : ChangingPlaces) : Type 0 where
  pub realtime : Leads 11 transit s p r.realtime
  pub cancelled : Leads 4 (part 11 transit) s r.realtime r.cancelled
  pub place : Leads 1 (part 15 transit) s r.cancelled r.place
  pub middles : Leads 3 (part 16 transit) s r.place r.middles
