-- The largest writing of a value that keeps its format's annotations.
use Rattle.std.specs.Prelude.{◌≡◌, Bool, true, false, cond, ◌&&◌, ℕ, ◌+◌, ◌*◌, ◌^◌, ◌≤◌, length, leb, ltb}
use Rattle.formats.specs.Number.{number_w, zig}
use Rattle.formats.specs.Class.{Class, any, printable, token, utf8}
use Rattle.formats.specs.Format.{Format, never, empty, number, signed, small, text, float, constant, list, choice, ◌&◌}
use Rattle.formats.specs.Format.{Value, write, Fits}
use Rattle.formats_judge.specs.Judged.{at_most, ok}

-- how many bytes a number takes
abbrev pub size : ℕ → ℕ
size n = length (number_w n)

abbrev pub larger : ℕ → ℕ → ℕ
larger m n = cond (leb m n) n m

abbrev pub capacity : Format → ℕ
capacity never = 0
capacity empty = 0
capacity (number lo hi) = size hi
capacity (signed lo hi) = larger (size (zig lo)) (size (zig hi))
capacity (small k) = size k
capacity (text l c) = size l + l
capacity float = 8
capacity (constant c) = 1
capacity (list l f) = size l + l * capacity f
capacity (choice a b) = 1 + larger (capacity a) (capacity b)
capacity (a & b) = capacity a + capacity b

-- a value that keeps the annotations: questions 5, 6 and 7 are answered yes
abbrev pub Keeps : (f : Format) → Value f → Type 0
Keeps f v = (q : ℕ) → 5 ≤ q → q ≤ 7 → ok q f v ≡ true

-- whether the limits of a format can be met at once: a test that computes
abbrev pub class_filled : Class → ℕ → Bool
class_filled any l = true
class_filled printable l = true
class_filled token l = ltb 0 l
class_filled utf8 l = true

abbrev pub attained : Format → Bool
attained never = false
attained empty = true
attained (number lo hi) = leb lo hi && ltb hi (2 ^ 64)
attained (signed lo hi) = at_most lo hi && (ltb (zig lo) (2 ^ 64) && ltb (zig hi) (2 ^ 64))
attained (small k) = ltb k (2 ^ 64)
attained (text l c) = ltb l (2 ^ 64) && class_filled c l
attained float = true
attained (constant c) = true
attained (list l f) = ltb l (2 ^ 64) && (attained f && ltb 0 (capacity f))
attained (choice a b) = cond (leb (capacity a) (capacity b)) (attained b) (attained a)
attained (a & b) = attained a && attained b

pub record Largest (f : Format) : Type 0 where
  pub value : Value f
  pub fits : Fits f value
  pub keeps : Keeps f value
  pub long : length (write f value) ≡ capacity f
