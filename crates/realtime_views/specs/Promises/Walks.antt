-- Promise. The messages at a repeated field k, of all the messages at field a merged, one after the other.
use Rattle.std.specs.Prelude.{ℕ, ◌+◌, ◌-◌, ◌≤◌, ◌<◌, ◌≡◌, List, [], ◌∷◌, length, take, drop}
use Rattle.std.proofs.Math.Option.{Option, some, map}
use Rattle.realtime.specs.Tree.{Schema, Tree, tree, join, sub, rep}
use Rattle.basics.specs.Options.{bind_o}
use Rattle.realtime.specs.Schema.{feed, feed_message, feed_entity, trip_update, stop_time_update}
use Rattle.realtime_views.specs.Promises.Seeks.{Holding}
use Rattle.realtime_views.specs.declared.Walk.{Walk}
use Rattle.realtime_views.specs.declared.Item.{Item}

-- those of the message that is open, and then those of the others
abbrev pub left_of : ℕ → ℕ → Option Tree → Option Tree → Option (List Tree)
left_of a k i o = bind_o i (λ m. map (λ t. rep k (join m (sub a t))) o)

-- of a walk in s, over a message of type t; those at field a are of type u
abbrev pub left : Schema → ℕ → ℕ → ℕ → ℕ → List ℕ → Walk → Option (List Tree)
left σ t a u k s w = left_of a k (tree σ u (drop w.at (take w.end s))) (tree σ t (drop w.outer s))

-- the places of a walk
pub record SoundWalk (s : List ℕ) (outer end at : ℕ) : Type 0 where
  pub ahead : at ≤ end
  pub behind : end ≤ outer
  pub inside : outer ≤ length s

-- an item, of type v, of the list l that was left: its first, and the others are left
abbrev pub Yield : Schema → ℕ → ℕ → ℕ → ℕ → ℕ → List ℕ → List Tree → Item → Type 0
Yield σ t a u k v s l (Item.At i n w) =
    (m : Tree) × (r : List Tree) × (l ≡ m ∷ r) × (tree σ v (take n (drop i s)) ≡ some m) × (left σ t a u k s w ≡ some r)
Yield σ t a u k v s l Item.Done = l ≡ []

-- the bytes behind both places of a walk: fewer with each item
abbrev pub ahead : List ℕ → Walk → ℕ
ahead s w = length s - w.outer + (length s - w.at)

-- an item of n bytes at i, and the walk w' behind it
pub record FoundItem (s : List ℕ) (w : Walk) (i n : ℕ) (w' : Walk) : Type 0 where
  pub inside : i + n ≤ length s
  pub sound : SoundWalk s w'.outer w'.end w'.at
  pub less : ahead s w' < ahead s w

abbrev pub Lying : List ℕ → Walk → Item → Type 0
Lying s w (Item.At i n w') = FoundItem s w i n w'
Lying s w Item.Done = Unit {0}

-- THE ANSWER r of a walk: where nothing is broken, the first of those that are left, or that none is
pub record Yields (σ : Schema) (t a u k v : ℕ) (s : List ℕ) (w : Walk) (r : Item) : Type 0 where
  pub of : (l : List Tree) → left σ t a u k s w ≡ some l → Yield σ t a u k v s l r
  pub lying : Lying s w r

-- the same of the messages at field k of those at field a, whatever types they have
pub record NextItem (a k : ℕ) (s : List ℕ) (w : Walk) (r : Item) : Type 0 where
  pub of : (t u v : ℕ) → Holding feed t a u → Holding feed u k v → (l : List Tree) → left feed t a u k s w ≡ some l
      → Yield feed t a u k v s l r
  pub lying : Lying s w r

abbrev pub NextEntity : List ℕ → Walk → Item → Type 0
NextEntity s w r = Yields feed feed_message 0 feed_message 2 feed_entity s w r

abbrev pub NextUpdate : List ℕ → Walk → Item → Type 0
NextUpdate s w r = Yields feed feed_entity 3 trip_update 2 stop_time_update s w r
