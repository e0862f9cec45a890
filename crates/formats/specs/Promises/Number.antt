-- Promise. What groups of seven bits can hold, and the groups of a number that follow others.
use Rattle.std.specs.Prelude.{ℕ, zero, suc, ◌+◌, ◌*◌, ◌^◌, ◌<◌, ◌≡◌, List, cond, eqb, drop}
use Rattle.std.proofs.Math.Option.{none, some}
use Rattle.formats.specs.Readers.{Reader, bind}
use Rattle.formats.specs.Number.{groups_r}

-- what k groups more can hold beside a first one: the bound below which the number is, top 9 = 2^64
abbrev pub top : ℕ → ℕ
top zero = 2
top (suc k) = 128 * top k

-- a number by at most k + 1 groups that follow others: those say n, and these count for `unit`
abbrev pub more_r : ℕ → ℕ → ℕ → Reader ℕ
more_r k n unit s = bind (groups_r k s) (λ h t. cond (eqb h 0) none (some (n + unit * h, t)))

-- at p, with `left` groups that may follow the next: what is found from there is the number
pub record Rest (s : List ℕ) (at low : ℕ) (p n unit left : ℕ) : Type 0 where
  pub same : more_r 8 low 128 (drop at s) ≡ more_r left n unit (drop p s)
  pub below : n < unit
  pub room : unit * top left ≡ 2 ^ 64
