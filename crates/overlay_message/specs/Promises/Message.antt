-- Promise. A feed and a state as a message leaves them.
use Rattle.std.specs.Prelude.{ℕ, ◌≤◌, ◌≡◌, Bool, List, ℤ, length, Option}
use Rattle.std.proofs.Math.Option.{Option as LogicOption, some, map}
use Rattle.basics.specs.Options.{Maybe, maybe, or_other}
use Rattle.realtime.specs.Tree.{Tree, tree}
use Rattle.realtime.specs.Schema.{feed_message}
use Rattle.realtime.specs.Schema as schema
use Rattle.realtime.specs.Typed.{int64}
use Rattle.decode.specs.Leaves.{Trips, timestamp_in, count_without_at}
use Rattle.decode.specs.Sizes.{most_old}
use Rattle.overlay.specs.Change.{after_message}
use Rattle.overlay.specs.Image.{state_of}
use Rattle.overlay.specs.State.{Feed, State, feed_with, timestamp_of, vehicles_of, alerts_of}
use Rattle.overlay_frame.specs.Promises.Body.{BodyAt}
use Rattle.overlay_frame.specs.Promises.Changes.{Changes}
use Rattle.overlay_open.specs.Promises.Held.{Open}

-- a message's timestamp, else the old one
abbrev pub timestamp_after : LogicOption ℕ → Maybe ℤ → Maybe ℤ
timestamp_after given known = or_other (maybe (map int64 given)) known

-- the feed F after a message that leaves these trips
abbrev pub feed_after : List ℕ → Tree → Feed → Trips → Feed
feed_after f t F T =
    feed_with (or_other (timestamp_in t) (timestamp_of F)) (count_without_at f T) T (vehicles_of F) (alerts_of F)

-- THE STATE AFTER A MESSAGE
pub record Leads (l m : List ℕ) (r : Option ℕ) (f s o : List ℕ) : Type 0 where
  pub of : {st : State} {t : Tree} → state_of o ≡ some st → tree schema.feed feed_message s ≡ some t
      → Changes l m r (after_message f t st)

-- the buffer o has a state up to `end`, and the body of its feed f stands in h
pub record Ready (o : List ℕ) (end : ℕ) (f : List ℕ) (from : ℕ) (known : Bool) (count : ℕ) (h : List ℕ) (body : ℕ) :
    Type 0 where
  pub opened : Open o end
  pub small : length h ≤ most_old
  pub place : BodyAt o end opened.state f from known count h body
