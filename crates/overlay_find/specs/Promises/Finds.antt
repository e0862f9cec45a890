-- Promise. What a look-up takes from the trips of a feed that is noted, by its place.
use Rattle.std.specs.Prelude.{List, ℕ, Option}
use Rattle.std.proofs.Math.Option.{Option as LogicOption}
use Rattle.decode.specs.Leaves.{Trips}
use Rattle.decode.specs.Trip.{Trip, trip}
use Rattle.overlay.specs.State.{Feed, trips_of}
use Rattle.overlay_noted.specs.Promises.Noted.{FeedNoted}
use Rattle.overlay_seek.specs.Promises.Answers.{Answers}

-- of the trips of the feed at rank r, the look-up's answer is x
pub record Finds (look : Trips → LogicOption Trip) (s places : List ℕ) (r : ℕ) (x : Option ℕ) : Type 0 where
  pub to : {e : List ℕ × Feed} → FeedNoted s places r e → Answers trip s (look (trips_of e.1)) x
