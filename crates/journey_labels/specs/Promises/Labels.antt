-- Promise. Labels in lent slices: of each, where it begins and where it ends in the old overlay's bytes.
use Rattle.std.specs.Prelude.{ℕ, zero, suc, ◌≤◌, ◌≡◌, Bool, true, ◌&&◌, List, [], ◌∷◌, ltb, length, get_or, drop}
use Rattle.basics.specs.Lists.{All}
use Rattle.slices.specs.Lists.{lex_of}
use Rattle.std.specs.declared.cmp.Ordering.{Ordering}
use Rattle.maps.specs.Map.{put, ascending}
use Rattle.maps.specs.Order.{texts}
use Rattle.maps.specs.Promises.Order.{is_same}
use Rattle.decode_slots.specs.Index.{Place}
use Rattle.decode_slots.specs.Places.{bytes_in}
use Rattle.decode_slots.specs.Promises.Index.{rank_of}

-- the headers of a card, and the length of the slices: with room for one more
abbrev pub most_labels : ℕ
most_labels = 1024

abbrev pub labels_length : ℕ
labels_length = 1025

-- a place lies forward and inside
abbrev pub Inside : List ℕ → Place → Type 0
Inside o p = (p.0 ≤ p.1) × (p.1 ≤ length o)

-- the first n places
abbrev pub places_in : ℕ → List ℕ → List ℕ → List Place
places_in zero f t = []
places_in (suc n) f t = (get_or f 0 0, get_or t 0 0) ∷ places_in n (drop 1 f) (drop 1 t)

-- a map of labels to nothing
abbrev pub Labels : Type 0
Labels = List (List ℕ × Unit {0})

abbrev pub labels_at : List ℕ → List Place → Labels
labels_at o [] = []
labels_at o (p ∷ l) = (bytes_in o p, tt) ∷ labels_at o l

abbrev pub labels : List ℕ → List ℕ → List ℕ → ℕ → Labels
labels o f t n = labels_at o (places_in n f t)

abbrev pub label_at : List ℕ → List ℕ → List ℕ → ℕ → List ℕ
label_at o f t i = bytes_in o (get_or f i 0, get_or t i 0)

-- the order of the label at p and the one at rank i
pub record OrderAt (o f t : List ℕ) (i : ℕ) (p : Place) (r : Ordering) : Type 0 where
  pub is : r ≡ lex_of (bytes_in o p) (label_at o f t i)

-- how many labels stand before the one at p
pub record Ranks (o f t : List ℕ) (n : ℕ) (p : Place) (r : ℕ) : Type 0 where
  pub is : r ≡ rank_of texts (bytes_in o p) (labels o f t n)

-- whether the label at rank r is the one at p
pub record StandsAt (o f t : List ℕ) (n r : ℕ) (p : Place) (b : Bool) : Type 0 where
  pub is : b ≡ (ltb r n && is_same (lex_of (bytes_in o p) (label_at o f t r)))

-- the slices have their lengths; their first n places lie inside, and the labels there ascend
pub record SoundLabels (o f t : List ℕ) (n : ℕ) : Type 0 where
  pub counted : n ≤ labels_length
  pub long_from : length f ≡ labels_length
  pub long_to : length t ≡ labels_length
  pub inside : All (Inside o) (places_in n f t)
  pub ascends : ascending texts (labels o f t n) ≡ true

-- after the label at p is noted
pub record LabelNoted (o f t : List ℕ) (n : ℕ) (p : Place) (f' t' : List ℕ) (r : ℕ) : Type 0 where
  pub map : labels o f' t' r ≡ put texts (bytes_in o p) tt (labels o f t n)
  pub sound : SoundLabels o f' t' r
