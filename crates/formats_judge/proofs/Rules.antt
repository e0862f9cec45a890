-- The questions on numbers, counts and texts, by the tests that the code makes.
use Rattle.std.specs.Prelude.{None}
use mathlib.Core.Path.{◌≡◌, refl, sym, ap}
use mathlib.Core.List.{List}
use mathlib.Core.Option.{Option, none}
use Prim.Native.Nat.{ℕ, zero, suc}
use Rattle.formats_judge.specs.Judged.{judged}
use Rattle.formats_judge.specs.Promises.Judged.{sooner}

-- nothing was read
pub nothing : {A : Type 0} (g : A → ℕ) (s : List ℕ) {o : Option (A × List ℕ)} → o ≡ none → None ≡ judged g s o
nothing g s e = sym (ap (judged g s) e)

pub sooner_none : (x y : ℕ) → y ≡ 0 → x ≡ sooner x y
sooner_none zero y e = sym e
sooner_none (suc x) y e = rw e refl
