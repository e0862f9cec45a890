-- `past_number_inside` meets its contract.
use mathlib.Core.Path.{◌≡◌}
use Prim.Native.Nat.{◌+◌}
use native.Mathlib.Omega.{arith}
use Rattle.formats_skip.specs.Laws.Number.{scan_start, scan_on, scan_low, near_end}
use Rattle.formats_skip.proofs.past_number_inside.Goals as goal

pub loop-k-init : goal.loop-k-init
loop-k-init c = let here : c.args.at + 0 ≡ c.args.at = omega arith in rw here scan_start

pub returns-then-s-at-lt128 : goal.returns-then-s-at-lt128
returns-then-s-at-lt128 c = record { passes = search scan_low; near = omega arith }

pub loop-k-preserved : goal.loop-k-preserved
loop-k-preserved c =
    let next : c.args.at + (c.loop-k.k + 1) ≡ c.args.at + c.loop-k.k + 1 = omega arith in rw next (search scan_on)

pub returns : goal.returns
returns c = let last : c.loop-k.k ≡ 9 = omega arith in near_end (rw last at c.loop-k.invariant)
