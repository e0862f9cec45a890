-- Promise. What the writers of a message's records write, by what was read of the message.
use Rattle.std.specs.Prelude.{ℕ, List, ◌++◌, ℤ}
use Rattle.basics.specs.Options.{maybe}
use Rattle.formats.specs.Number.{number_w, zig}
use Rattle.formats_write.specs.Promises.Given.{optional_w, text_w}
use Rattle.realtime.specs.Views.{EventView, StopView, TripView}
use Rattle.realtime_views.specs.declared.Trip.{Trip}
use Rattle.realtime_views.specs.Promises.Views.{PartInside}
use Rattle.decode.specs.Record.{bit}
use Rattle.decode.specs.Trip.{StopUpdate, update_with}

abbrev pub signed_w : ℤ → List ℕ
signed_w z = number_w (zig z)

-- delay and time of an event
abbrev pub event_w : EventView → List ℕ
event_w e = optional_w signed_w (maybe e.delay) ++ optional_w signed_w (maybe e.time)

-- the stop update of a view
abbrev pub update_of : StopView → StopUpdate
update_of u =
    update_with u.stop (maybe u.arrival.delay) (maybe u.arrival.time) (maybe u.departure.delay)
    (maybe u.departure.time) (bit u.skipped)

-- a record's part before its updates
abbrev pub head_w : TripView → List ℕ
head_w t =
    optional_w signed_w (maybe t.delay) ++ number_w (bit t.cancelled) ++ text_w t.date ++ text_w t.route
    ++ optional_w number_w (maybe t.direction) ++ text_w t.time

-- the texts of it lie in the first n bytes
pub record TextsLie (n : ℕ) (t : Trip) : Type 0 where
  pub date : PartInside n t.date
  pub route : PartInside n t.route
  pub time : PartInside n t.time
