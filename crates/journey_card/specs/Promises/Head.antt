-- Promise. A card's head: its times, its duration and its status, written anew.
use Rattle.std.specs.Prelude.{◌≡◌, Bool, true, false, List, ◌∷◌, ◌++◌, ℕ, ◌≤◌, ◌<◌, ℤ, ◌-ℤ◌, Option}
use Rattle.std.specs.Int.Signed.{mag}
use Rattle.basics.specs.Options.{given_or}
use Rattle.formats.specs.Number.{zig, number_w}
use Rattle.formats.specs.Format.{Value}
use Rattle.formats_read.specs.Promises.Fields.{part}
use Rattle.formats_read.specs.Promises.Here.{Here}
use Rattle.journey.specs.Card.{card}
use Rattle.journey_leg.specs.Promises.Opens.{Opens}
use Rattle.journey_card.specs.Promises.Survey.{Gathered, gathered_of, status_by}
use Rattle.journey_card.specs.declared.CardTimes.{CardTimes}
use Rattle.journey_card.specs.declared.Survey as code

-- a number that leaves room
pub record Small (z : ℤ) (r : Bool) : Type 0 where
  pub yes : r ≡ true → mag z < 4611686018427387904
  pub no : r ≡ false → 4611686018427387904 ≤ mag z

-- a difference of times that are small enough
pub record Minus (a d r : ℤ) : Type 0 where
  pub is : mag a < 4611686018427387904 → mag d < 4611686018427387904 → r ≡ a -ℤ d

-- departure, arrival, duration, status
abbrev pub head_w : ℤ → ℤ → ℤ → ℕ → List ℕ
head_w d a u n = 1 ∷ (number_w (zig d) ++ (number_w (zig a) ++ (number_w (zig u) ++ number_w n)))

-- the card's departure and arrival, by the first pass
abbrev pub departure_by : Value card → Gathered → ℤ
departure_by v G = given_or v.1.0 G.first

abbrev pub arrival_by : Value card → Gathered → ℤ
arrival_by v G = given_or v.1.1.0 G.last

abbrev pub new_head : Value card → Gathered → Value (part 5 card) → Value card
new_head v G u = (
  tt,
  (departure_by v G, (arrival_by v G, (arrival_by v G -ℤ departure_by v G, (status_by G, u)))),
)

pub record ReadsTimes (S : code.Survey) (s : List ℕ) (p : ℕ) (r : CardTimes) : Type 0 where
  pub departs : {e : ℕ} {v : Value card} → Here card s p e v → r.departure ≡ departure_by v (gathered_of S)
  pub arrives : {e : ℕ} {v : Value card} → Here card s p e v → r.arrival ≡ arrival_by v (gathered_of S)

pub record PutsHead (S : code.Survey) (s : List ℕ) (p : ℕ) (l : List ℕ) (w : Option ℕ) (m : List ℕ)
    (r : Option ℕ) : Type 0 where
  pub opens : {e : ℕ} {v : Value card} → Here card s p e v → mag (departure_by v (gathered_of S)) < 4611686018427387904
      → mag (arrival_by v (gathered_of S)) < 4611686018427387904
      → Opens card (part 5 card) l w m r (new_head v (gathered_of S))
