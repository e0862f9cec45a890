-- `alerts_search::ids::any_id` meets its contract. The invariant: `hit` says whether an id that was read said yes.
use Rattle.std.specs.Prelude.{◌≡◌, List, Bool, false, ◌||◌, ℕ, ◌+◌, ◌-◌, ◌<◌, ◌≤◌, take, drop}
use Rattle.std.proofs.Common.{arith}
use Rattle.formats_read.specs.Promises.Reads.{ReadsNumber, ReadsText}
use Rattle.alerts_search.specs.declared.ids.Ask.{Ask}
use Rattle.alerts_search.specs.Promises.Ids.{answer_of, Asked}
use Rattle.alerts_search.specs.Laws.Ids.{Asking, asking_start, asking_on, asking_end}
use Rattle.alerts_search.proofs.ids.any_id.Goals as goal

first : {ask : Ask} {x y s : List ℕ} {a n : ℕ} → Asking ask x y s a n a (n - 0) false
first {ask} {x} {y} {s} {a} {n} = let z : n - 0 ≡ n = omega arith in rw z asking_start

next : {ask : Ask} {x y s : List ℕ} {a n p i f e : ℕ} {hit r : Bool} → Asking ask x y s a n p (n - i) hit → i < n
    → ReadsText s p f e → r ≡ hit || answer_of ask x y (take (e - f) (drop f s))
    → Asking ask x y s a n e (n - (i + 1)) r
next {n} {i} W h T g = let z : n - (i + 1) ≡ n - i - 1 = omega arith in rw z (asking_on W (omega arith) T g)

last : {ask : Ask} {x y s : List ℕ} {a n p i at : ℕ} {hit : Bool} → Asking ask x y s a n p (n - i) hit → n ≤ i
    → ReadsNumber s at n a → Asked ask x y s at hit p
last W h N = asking_end W N (omega arith)

pub loop-init : goal.loop-init
loop-init c = first

pub loop-preserved : goal.loop-preserved
loop-preserved c = search (next)

pub returns : goal.returns
returns c = search (last)
