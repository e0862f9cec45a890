-- Promise. The fields of a record, which is pairs to the right: where the part from field k on begins, what it
-- holds, and the record with it changed.
use Rattle.std.specs.Prelude.{List, ℕ, zero, suc, Option, Some, None}
use Rattle.formats.specs.Format.{Format, never, empty, number, signed, small, text, float, constant, list, choice, ◌&◌}
use Rattle.formats.specs.Format.{Value}
use Rattle.formats.specs.Promises.Outcome.{skip_to}

-- the record from field k on
abbrev pub part : ℕ → Format → Format
part zero f = f
part (suc k) (a & b) = part k b
part (suc k) never = never
part (suc k) empty = never
part (suc k) (number lo hi) = never
part (suc k) (signed lo hi) = never
part (suc k) (small m) = never
part (suc k) (text l c) = never
part (suc k) float = never
part (suc k) (constant c) = never
part (suc k) (list l f) = never
part (suc k) (choice a b) = never

-- whether a format has a field k
abbrev pub Has : ℕ → Format → Type 0
Has zero f = Unit {0}
Has (suc k) (a & b) = Has k b
Has (suc k) never = ⊥
Has (suc k) empty = ⊥
Has (suc k) (number lo hi) = ⊥
Has (suc k) (signed lo hi) = ⊥
Has (suc k) (small m) = ⊥
Has (suc k) (text l c) = ⊥
Has (suc k) float = ⊥
Has (suc k) (constant c) = ⊥
Has (suc k) (list l f) = ⊥
Has (suc k) (choice a b) = ⊥

abbrev pub onward : Option ℕ → (ℕ → Option ℕ) → Option ℕ
onward None k = None
onward (Some p) k = k p

-- where that part begins
abbrev pub field_to : ℕ → Format → List ℕ → ℕ → Option ℕ
field_to zero f s at = Some at
field_to (suc k) (a & b) s at = onward (skip_to a s at) (λ p. field_to k b s p)
field_to (suc k) never s at = None
field_to (suc k) empty s at = None
field_to (suc k) (number lo hi) s at = None
field_to (suc k) (signed lo hi) s at = None
field_to (suc k) (small m) s at = None
field_to (suc k) (text l c) s at = None
field_to (suc k) float s at = None
field_to (suc k) (constant c) s at = None
field_to (suc k) (list l f) s at = None
field_to (suc k) (choice a b) s at = None

-- what a record holds from field k on, and the record with that part changed
abbrev pub tail : (k : ℕ) (f : Format) → Has k f → Value f → Value (part k f)
tail zero f h v = v
tail (suc k) (a & b) h v = tail k b h v.1
tail (suc k) never h v = absurd h
tail (suc k) empty h v = absurd h
tail (suc k) (number lo hi) h v = absurd h
tail (suc k) (signed lo hi) h v = absurd h
tail (suc k) (small m) h v = absurd h
tail (suc k) (text l c) h v = absurd h
tail (suc k) float h v = absurd h
tail (suc k) (constant c) h v = absurd h
tail (suc k) (list l f) h v = absurd h
tail (suc k) (choice a b) h v = absurd h

abbrev pub with : (k : ℕ) (f : Format) → Has k f → Value f → Value (part k f) → Value f
with zero f h v u = u
with (suc k) (a & b) h v u = (v.0, with k b h v.1 u)
with (suc k) never h v u = absurd h
with (suc k) empty h v u = absurd h
with (suc k) (number lo hi) h v u = absurd h
with (suc k) (signed lo hi) h v u = absurd h
with (suc k) (small m) h v u = absurd h
with (suc k) (text l c) h v u = absurd h
with (suc k) float h v u = absurd h
with (suc k) (constant c) h v u = absurd h
with (suc k) (list l f) h v u = absurd h
with (suc k) (choice a b) h v u = absurd h
