-- Promise. The working index: when its slices hold one, where a key ranks in it, and what they hold when a key is
-- put.
use Rattle.std.specs.Prelude.{ℕ, suc, ◌+◌, ◌*◌, ◌≤◌, ◌<◌, ◌≡◌, true, List, [], ◌∷◌, length, get_or, take, drop, set}
use Rattle.decode.specs.Sizes.{most_trips, key_bytes, keys_length, marks_length, order_length}
use Rattle.basics.specs.Lists.{All}
use Rattle.maps.specs.Map.{Ordered, by_order, put, ascending}
use Rattle.maps.specs.Order.{texts}
use Rattle.decode_slots.specs.Index.{index}

-- the slices have their lengths, with room for one key more than a feed may have, and the first n slots are in use
pub record SoundIndex (keys marks order : List ℕ) (n : ℕ) : Type 0 where
  pub counted : n ≤ order_length
  pub ordered : length order ≡ order_length
  pub marked : length marks ≡ marks_length
  pub keyed : length keys ≡ keys_length
  pub slots : All (λ j. j < n) (take n order)
  pub lengths : (j : ℕ) → j < n → get_or marks (3 * j) 0 ≤ key_bytes
  pub ascends : ascending texts (index keys marks order n) ≡ true

-- an index with a slot left for one more key
pub record Open (keys marks order : List ℕ) (n : ℕ) : Type 0 where
  pub sound : SoundIndex keys marks order n
  pub few : n ≤ most_trips

-- the slices are lent with their lengths, whatever they hold
pub record Lent (keys marks order : List ℕ) : Type 0 where
  pub keyed : length keys ≡ keys_length
  pub marked : length marks ≡ marks_length
  pub ordered : length order ≡ order_length

-- the key that stands in slot n, `len` long
abbrev pub key_in : List ℕ → ℕ → ℕ → List ℕ
key_in keys n len = take len (drop (key_bytes * n) keys)

-- how many keys stand before k
module _ {K : Type 0} (O : Ordered K) {A : Type 0} where
  abbrev pub rank_of : K → List (K × A) → ℕ
  rank_of k [] = 0
  rank_of k (e ∷ m) = by_order (O.compare k e.0) 0 0 (suc (rank_of k m))

-- the place of a slot becomes another
abbrev pub remarked : List ℕ → ℕ → ℕ → ℕ → List ℕ
remarked marks j from to = set (set marks (3 * j + 1) from) (3 * j + 2) to

-- after the key in slot n has gone in at its place: the map, and how many slots are in use
pub record Settled (keys marks order : List ℕ) (n len from to : ℕ) (marks' order' : List ℕ) (r : ℕ) : Type 0 where
  pub map : index keys marks' order' r ≡ put texts (key_in keys n len) (from, to) (index keys marks order n)
  pub sound : SoundIndex keys marks' order' r
