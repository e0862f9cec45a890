-- Promise. Where the body of a feed goes in an old state, and where its old body is.
use Rattle.std.specs.Prelude.{◌≡◌, Bool, true, false, cond, List, [], ◌∷◌, ℕ, ◌≤◌, Option, Some, None}
use Rattle.formats_judge.specs.Judged.{ok}
use Rattle.formats_read.specs.Promises.Here.{Here}
use Rattle.overlay.specs.State.{Feed, State, feed, overlay}
use Rattle.overlay.specs.Change.{feed_at, put_feed}
use Rattle.overlay.specs.Valid.{valid}
use Rattle.overlay_frame.specs.declared.FeedSpot.{FeedSpot}
use Rattle.overlay_frame.specs.Promises.Frame.{Spot}

-- the body of a feed that isn't there yet
abbrev pub no_body : List ℕ
no_body = 0 ∷ 0 ∷ 0 ∷ 0 ∷ 0 ∷ []

-- the valid state s stands in b up to q. The body of its feed f stands in h at `body`, and goes into b at `from`: for
-- the old entry, if it is known. With it there are `count` feeds, which are not too many
pub record BodyAt (b : List ℕ) (q : ℕ) (s : State) (f : List ℕ) (from : ℕ) (known : Bool) (count : ℕ) (h : List ℕ)
    (body : ℕ) : Type 0 where
  pub valid : valid s ≡ true
  pub till : ℕ
  pub here : Here feed h body till (feed_at f s)
  pub spot : Spot b q s f from (cond known till from) count
  pub few : count ≤ 4

-- NONE: with the feed, question 7 has the answer no. KNOWN: its body stands in b. NEW: an empty one stands for it
pub record Spotted (b f : List ℕ) (s : State) (q : ℕ) (r : Option FeedSpot) : Type 0 where
  pub full : r ≡ None → (F : Feed) (n : ℕ) → ok 7 overlay (put_feed f F n s) ≡ false
  pub known : (from body count : ℕ) → r ≡ Some (FeedSpot.Known from body count) → BodyAt b q s f from true count b body
  pub new : (from count : ℕ) → r ≡ Some (FeedSpot.New from count) → BodyAt b q s f from false count no_body 0

-- the spot is that of feed f in a valid state that stands at 0
pub record FindsSpot (b f : List ℕ) (r : Option FeedSpot) : Type 0 where
  pub to : {s : State} {q : ℕ} → Here overlay b 0 q s → valid s ≡ true → Spotted b f s q r
