-- Believe: 01, Overlay. The orders of keys: numbers, and texts by their bytes.
use Rattle.std.specs.Prelude.{ℕ, List, [], ◌∷◌}
use Rattle.slices.specs.Lists.{lex_of}
use Rattle.maps.specs.Map.{Ordered}

-- texts by their bytes, a proper prefix first
abbrev pub texts : Ordered (List ℕ)
texts = record { compare = lex_of }

-- numbers, as texts of one
abbrev pub numbers : Ordered ℕ
numbers = record { compare = λ x y. lex_of (x ∷ []) (y ∷ []) }
