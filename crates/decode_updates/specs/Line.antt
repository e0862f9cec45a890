-- Believe: the probes' answers. The updates of a trip in a lent slice: three numbers each, the sequence and the two
-- of the place.
use Rattle.std.specs.Prelude.{ℕ, zero, suc, List, [], ◌∷◌, get_or, drop}
use Rattle.decode_slots.specs.Index.{Place}

-- THE MAP of the first n
abbrev pub laid : ℕ → List ℕ → List (ℕ × Place)
laid zero u = []
laid (suc n) u = (get_or u 0 0, (get_or u 1 0, get_or u 2 0)) ∷ laid n (drop 3 u)
