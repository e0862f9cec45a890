-- What a value that keeps its format's annotations has by its form, and the annotations that have a writing.
use Rattle.std.specs.Prelude.{Bool, true, ◌&&◌, ◌^◌, ◌≤◌, ◌<◌, ltb}
use Rattle.formats.specs.Readers.{choice_ok}
use Rattle.basics.specs.Lists.{All}
use Rattle.formats.specs.Number.{zig}
use Rattle.formats.specs.Format.{Format, never, empty, number, signed, small, text, float, constant, list, choice, ◌&◌}
use Rattle.formats.specs.Format.{Value}
use Rattle.formats.specs.Laws.Format.{nonempty}

abbrev pub sensible : Format → Bool
sensible never = true
sensible empty = true
sensible (number lo hi) = ltb hi (2 ^ 64)
sensible (signed lo hi) = ltb (zig lo) (2 ^ 64) && ltb (zig hi) (2 ^ 64)
sensible (small k) = ltb k (2 ^ 64)
sensible (text l c) = ltb l (2 ^ 64)
sensible float = true
sensible (constant c) = true
sensible (list l f) = ltb l (2 ^ 64) && (sensible f && nonempty f)
sensible (choice a b) = sensible a && sensible b
sensible (a & b) = sensible a && sensible b

-- what belongs to the form and to no annotation: a small number is at most its bound, and a float is eight bytes
abbrev pub Formed : (f : Format) → Value f → Type 0
Formed never = λ v. Unit {0}
Formed empty = λ v. Unit {0}
Formed (number lo hi) = λ v. Unit {0}
Formed (signed lo hi) = λ v. Unit {0}
Formed (small k) = λ n. n ≤ k
Formed (text l c) = λ v. Unit {0}
Formed float = λ n. n < 2 ^ 64
Formed (constant c) = λ v. Unit {0}
Formed (list l f) = λ v. All (Formed f) v
Formed (choice a b) = choice_ok (Formed a) (Formed b)
Formed (a & b) = λ v. Formed a v.0 × Formed b v.1
