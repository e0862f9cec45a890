-- Promise. The rank of a feed among those that are noted.
use Rattle.std.specs.Prelude.{◌≡◌, List, ℕ, Option, Some, None}
use Rattle.std.proofs.Math.Option.{none, some}
use Rattle.maps.specs.Map.{get}
use Rattle.maps.specs.Order.{texts}
use Rattle.formats_read.specs.Promises.Here.{Here}
use Rattle.overlay.specs.State.{Feed, State, overlay, feeds_of}
use Rattle.overlay_noted.specs.Promises.Noted.{FeedNoted}

-- feed f of the state is noted at rank r
pub record RankedAt (s places f : List ℕ) (st : State) (r : ℕ) : Type 0 where
  pub it : Feed
  pub got : get texts f (feeds_of st) ≡ some it
  pub noted : FeedNoted s places r (f, it)

pub record Ranked (s places f : List ℕ) (st : State) (x : Option ℕ) : Type 0 where
  pub found : (r : ℕ) → x ≡ Some r → RankedAt s places f st r
  pub lost : x ≡ None → get texts f (feeds_of st) ≡ none

-- the rank is that of feed f in a state that stands at 0
pub record RanksFeed (s places f : List ℕ) (x : Option ℕ) : Type 0 where
  pub to : {st : State} {q : ℕ} → Here overlay s 0 q st → Ranked s places f st x
