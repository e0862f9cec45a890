-- Promise. Where an id's feed ends, where a key's last '@' is, and which ids are one.
use Rattle.std.specs.Prelude.{◌≡◌, Bool, ◌&&◌, ◌||◌, not, List, ◌∷◌, ◌++◌, ℕ, ◌+◌, ◌≤◌, ◌<◌, length, take, drop, Option, Some, None}
use Rattle.std.proofs.Math.Option.{none, some}
use Rattle.basics.specs.Lists.{is_empty}
use Rattle.basics.specs.Texts.{same}
use Rattle.decode.specs.Key.{prefixed}
use Rattle.alerts.specs.Text.{ends, rsplit_once}
use Rattle.overlay.specs.Lookup.{feed_of, route_matches}

pub record FeedEnd (id : List ℕ) (r : ℕ) : Type 0 where
  pub is : take r id ≡ feed_of id
  pub within : r ≤ length id

pub record LastAt (key : List ℕ) (r : Option ℕ) : Type 0 where
  pub found : (k : ℕ) → r ≡ Some k → rsplit_once 64 key ≡ some (take k key, drop (k + 1) key)
  pub lost : r ≡ None → rsplit_once 64 key ≡ none
  pub within : (k : ℕ) → r ≡ Some k → k < length key

-- whether a key is feed f, ':' and r
pub record IsJoined (f r key : List ℕ) (t : Bool) : Type 0 where
  pub is : t ≡ same (f ++ 58 ∷ r) key

-- whether a text ends with ':' and x; and with ':', feed f, ':' and r
pub record EndsColon (x s : List ℕ) (t : Bool) : Type 0 where
  pub is : t ≡ ends (58 ∷ x) s

pub record EndsJoined (f r s : List ℕ) (t : Bool) : Type 0 where
  pub is : t ≡ ends (58 ∷ (f ++ 58 ∷ r)) s

-- whether feed f's stop r is the card's, and feed f's route r the leg's
pub record StopFits (f r stop : List ℕ) (t : Bool) : Type 0 where
  pub is : t ≡ not (is_empty (prefixed f r)) && (same (prefixed f r) stop || ends (58 ∷ stop) (prefixed f r))

pub record RouteFits (f r leg : List ℕ) (t : Bool) : Type 0 where
  pub is : t ≡ route_matches (prefixed f r) leg
