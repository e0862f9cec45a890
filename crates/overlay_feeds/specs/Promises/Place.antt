-- Promise. Where a feed stands among an overlay's, or would go in.
use Rattle.std.specs.Prelude.{◌≡◌, true, List, ◌∷◌, ◌++◌, ℕ, length}
use Rattle.std.proofs.Math.Option.{none, some}
use Rattle.slices.specs.Lists.{lex_of}
use Rattle.std.specs.declared.cmp.Ordering.{Ordering}
use Rattle.maps.specs.Map.{get, put, ascending}
use Rattle.maps.specs.Order.{texts}
use Rattle.formats.specs.Class.{Class, token}
use Rattle.formats.specs.Format.{text}
use Rattle.formats_read.specs.Promises.Here.{Here}
use Rattle.formats_read.specs.Promises.Lists.{Many}
use Rattle.decode.specs.Sizes.{most_feed}
use Rattle.overlay.specs.State.{Feed, State, overlay, feed, feed_entry, feeds_of}
use Rattle.overlay_feeds.specs.declared.FeedPlace.{FeedPlace}
use Rattle.overlay_feeds.specs.declared.FeedPlace.TheVariants.{At, Missing}

-- the order of x and the text that stands at p
pub record Compares (s : List ℕ) (p : ℕ) (x : List ℕ) (r : Ordering) : Type 0 where
  pub to : {l : ℕ} {c : Class} {v : List ℕ} {q : ℕ} → Here (text l c) s p q v → r ≡ lex_of x v

-- the feeds, which stand up to q, from their first on: those in front of p, and those behind
module _ (b : List ℕ) (f : List ℕ) (st : State) (q : ℕ) where
  -- feed f is the one after the first i: its entry is at p, and its id ends at m
  pub record FeedAt (i p m : ℕ) : Type 0 where
    pub front : List (List ℕ × Feed)
    pub it : Feed
    pub back : List (List ℕ × Feed)
    pub till : ℕ
    pub joined : front ++ (f, it) ∷ back ≡ feeds_of st
    pub rank : length front ≡ i
    pub id_here : Here (text most_feed token) b p m f
    pub feed_here : Here feed b m till it
    pub passed : (a : ℕ) → Many feed_entry b a q (feeds_of st) → Many feed_entry b a p front
    pub ahead : Many feed_entry b till q back
    pub got : get texts f (feeds_of st) ≡ some it
    pub puts : (G : Feed) → put texts f G (feeds_of st) ≡ front ++ (f, G) ∷ back

  -- feed f isn't there, and would come after the first i, at p
  pub record FeedMissing (i p : ℕ) : Type 0 where
    pub front : List (List ℕ × Feed)
    pub back : List (List ℕ × Feed)
    pub joined : front ++ back ≡ feeds_of st
    pub rank : length front ≡ i
    pub passed : (a : ℕ) → Many feed_entry b a q (feeds_of st) → Many feed_entry b a p front
    pub ahead : Many feed_entry b p q back
    pub got : get texts f (feeds_of st) ≡ none
    pub puts : (G : Feed) → put texts f G (feeds_of st) ≡ front ++ (f, G) ∷ back

  pub record Placed (r : FeedPlace) : Type 0 where
    pub found : (i p m : ℕ) → r ≡ At i p m → FeedAt i p m
    pub lost : (i p : ℕ) → r ≡ Missing i p → FeedMissing i p

-- the place is that of feed f in a state that stands at 0
pub record FindsFeed (b f : List ℕ) (r : FeedPlace) : Type 0 where
  pub to : {st : State} {q : ℕ} → Here overlay b 0 q st → ascending texts (feeds_of st) ≡ true → Placed b f st q r
