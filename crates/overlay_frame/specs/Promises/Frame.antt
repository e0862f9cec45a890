-- Promise. Where a feed goes in an overlay's bytes, and what is written before its body.
use Rattle.std.specs.Prelude.{◌≡◌, List, ◌∷◌, ◌++◌, ℕ, suc, ◌+◌, length}
use Rattle.formats.specs.Readers.{many_w}
use Rattle.formats.specs.Number.{number_w}
use Rattle.formats.specs.Format.{write}
use Rattle.formats_write.specs.Promises.Given.{text_w}
use Rattle.formats_read.specs.Promises.Here.{Here}
use Rattle.formats_read.specs.Promises.Lists.{Many}
use Rattle.maps.specs.Map.{put}
use Rattle.maps.specs.Order.{texts}
use Rattle.overlay.specs.State.{Feed, State, feed_entry, overlay, feeds_of}

-- the state s stands in b up to q. The feed of the id f goes between `from` and `to`, where its entry or nothing
-- stands, and with it there are `count` feeds
pub record Spot (b : List ℕ) (q : ℕ) (s : State) (f : List ℕ) (from to count : ℕ) : Type 0 where
  pub whole : Here overlay b 0 q s
  pub first : ℕ
  pub front : List (List ℕ × Feed)
  pub back : List (List ℕ × Feed)
  pub listed : Many feed_entry b first q (feeds_of s)
  pub before : Many feed_entry b first from front
  pub behind : Many feed_entry b to q back
  pub puts : (F : Feed) → put texts f F (feeds_of s) ≡ front ++ (f, F) ∷ back
  pub many : count ≡ suc (length front + length back)

abbrev pub head_w : ℕ → ℕ → List ℕ
head_w version count = 1 ∷ (number_w version ++ number_w count)

-- what stands before the body of the feed f
abbrev pub opening_w : ℕ → ℕ → List (List ℕ × Feed) → List ℕ → List ℕ
opening_w version count front f = (head_w version count ++ many_w (write feed_entry) front) ++ text_w f

-- what follows it
abbrev pub closing_w : List (List ℕ × Feed) → List ℕ
closing_w back = many_w (write feed_entry) back
