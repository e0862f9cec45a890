-- Believe: the probes' answers. The working index: a map of keys to places, in lent slices. Slot j has its key in
-- `keys` from 137 j on; in `marks`, from 3 j on, the key's length and the two numbers of the place. `order` has the
-- slots in the order of their keys.
use Rattle.std.specs.Prelude.{ℕ, ◌+◌, ◌*◌, List, [], ◌∷◌, get_or, take, drop}
use Rattle.decode.specs.Sizes.{key_bytes}

-- where a record comes from
abbrev pub Place : Type 0
Place = ℕ × ℕ

abbrev pub slot_key : List ℕ → List ℕ → ℕ → List ℕ
slot_key keys marks j = take (get_or marks (3 * j) 0) (drop (key_bytes * j) keys)

abbrev pub slot_place : List ℕ → ℕ → Place
slot_place marks j = (get_or marks (3 * j + 1) 0, get_or marks (3 * j + 2) 0)

abbrev pub slot_entry : List ℕ → List ℕ → ℕ → List ℕ × Place
slot_entry keys marks j = (slot_key keys marks j, slot_place marks j)

abbrev pub slotted : List ℕ → List ℕ → List ℕ → List (List ℕ × Place)
slotted keys marks [] = []
slotted keys marks (j ∷ l) = slot_entry keys marks j ∷ slotted keys marks l

-- THE MAP that the first n slots hold
abbrev pub index : List ℕ → List ℕ → List ℕ → ℕ → List (List ℕ × Place)
index keys marks order n = slotted keys marks (take n order)
