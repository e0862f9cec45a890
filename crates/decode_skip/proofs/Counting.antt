-- A loop that counts up over the values of a list.
use Prim.Native.Nat.{ℕ, ◌+◌, ◌-◌, ◌≤◌, ◌<◌}
use mathlib.Core.Path.{◌≡◌}
use mathlib.Core.List.{List}
use native.Mathlib.Omega.{arith}
use Rattle.formats.specs.Format.{Format, list}
use Rattle.formats_read.specs.Promises.Reads.{ReadsNumber}
use Rattle.formats_skip.specs.Promises.Passes.{Passes}
use Rattle.formats_skip.specs.Laws.Passes.{Passing, list_start, list_on, list_end}

module _ {f : Format} {s : List ℕ} {a n : ℕ} where
  pub counting : Passing f s a n a (n - 0)
  counting = let z : n - 0 ≡ n = omega arith in rw z list_start

  module _ {p i : ℕ} (W : Passing f s a n p (n - i)) where
    pub counting_on : {e : ℕ} → i < n → Passes f s p e → Passing f s a n e (n - (i + 1))
    counting_on h P = let z : n - (i + 1) ≡ n - i - 1 = omega arith in rw z (list_on W (omega arith) P)

    pub counted : {at c : ℕ} → ReadsNumber s at n a → n ≤ i → Passes (list c f) s at p
    counted N h = list_end W N (omega arith)
