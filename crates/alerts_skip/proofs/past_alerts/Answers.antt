-- `alerts_skip::past_alerts` meets its contract.
use Rattle.std.specs.Prelude.{◌≡◌, List, ℕ, ◌+◌, ◌-◌, ◌<◌, ◌≤◌}
use Rattle.std.proofs.Common.{arith}
use Rattle.formats_read.specs.Promises.Reads.{ReadsNumber}
use Rattle.formats.specs.Format.{list}
use Rattle.formats_skip.specs.Promises.Passes.{Passes}
use Rattle.formats_skip.specs.Laws.Passes.{Passing, list_start, list_on, list_end}
use Rattle.alerts.specs.Alert.{alert}
use Rattle.alerts_skip.proofs.past_alerts.Goals as goal

first : {s : List ℕ} {a n : ℕ} → Passing alert s a n a (n - 0)
first {s} {a} {n} = let z : n - 0 ≡ n = omega arith in rw z list_start

next : {s : List ℕ} {a n p i e : ℕ} → Passing alert s a n p (n - i) → i < n → Passes alert s p e
    → Passing alert s a n e (n - (i + 1))
next {n} {i} W h P = let z : n - (i + 1) ≡ n - i - 1 = omega arith in rw z (list_on W (omega arith) P)

last : {s : List ℕ} {a n p i at : ℕ} → Passing alert s a n p (n - i) → n ≤ i → ReadsNumber s at n a
    → Passes (list 256 alert) s at p
last W h N = list_end W N (omega arith)

pub loop-init : goal.loop-init
loop-init c = first

pub loop-preserved : goal.loop-preserved
loop-preserved c = search (next)

pub returns : goal.returns
returns c = search (last)
