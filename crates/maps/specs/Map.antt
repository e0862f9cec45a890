-- Believe: 01, Overlay. A map is a list of keys and values, strictly ascending by key.
use Rattle.std.specs.Prelude.{Bool, true, false, ◌&&◌, List, [], ◌∷◌}
use Rattle.std.proofs.Math.Option.{Option, none, some}
use Rattle.std.specs.declared.cmp.Ordering.{Ordering}
use Rattle.std.specs.declared.cmp.Ordering.TheVariants.{Less, Equal, Greater}

-- keys with an order
pub record Ordered (K : Type 0) : Type 0 where
  pub compare : K → K → Ordering

abbrev pub is_less : Ordering → Bool
is_less Less = true
is_less Equal = false
is_less Greater = false

-- by an order: one of three
abbrev pub by_order : {A : Type 0} → Ordering → A → A → A → A
by_order Less a b c = a
by_order Equal a b c = b
by_order Greater a b c = c

module _ {K : Type 0} (O : Ordered K) {A : Type 0} where
  -- k's value, where there is one
  abbrev pub get : K → List (K × A) → Option A
  get k [] = none
  get k (e ∷ m) = by_order (O.compare k e.0) (get k m) (some e.1) (get k m)

  -- k's value becomes v
  abbrev pub put : K → A → List (K × A) → List (K × A)
  put k v [] = (k, v) ∷ []
  put k v (e ∷ m) = by_order (O.compare k e.0) ((k, v) ∷ e ∷ m) ((k, v) ∷ m) (e ∷ put k v m)

  -- one after the other, over old ones
  abbrev pub puts : List (K × A) → List (K × A) → List (K × A)
  puts [] m = m
  puts (e ∷ l) m = puts l (put e.0 e.1 m)

  -- the keys ascend from above k; they ascend
  abbrev pub above : K → List (K × A) → Bool
  above k [] = true
  above k (e ∷ m) = is_less (O.compare k e.0) && above e.0 m

  abbrev pub ascending : List (K × A) → Bool
  ascending [] = true
  ascending (e ∷ m) = above e.0 m

-- a map with each value by what it stands for
abbrev pub map_values : {K A B : Type 0} → (A → B) → List (K × A) → List (K × B)
map_values f [] = []
map_values f (e ∷ m) = (e.0, f e.1) ∷ map_values f m
