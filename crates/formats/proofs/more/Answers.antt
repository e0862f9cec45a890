-- `formats::more`: what is found from the next group on is the number. Assumes nothing.
use Prim.Native.Nat.{◌<◌}
use native.Mathlib.Omega.{arith}
use Rattle.formats.proofs.Groups.{begins, ends, last_good, last_bad, zero_bad, one_good, goes_on}
use Rattle.formats.proofs.Groups.{last_fits, unit_fits, end_part_fits, end_fits, next_part_fits, next_fits}
use Rattle.formats.proofs.more.Goals as goal

pub loop-p-init : goal.loop-p-init
loop-p-init c = search begins

pub overflow_add-result : goal.overflow_add-result
overflow_add-result c = search last_fits

pub returns-then-b-eq1 : goal.returns-then-b-eq1
returns-then-b-eq1 c = search last_good

pub returns-then-left-eq0 : goal.returns-then-left-eq0
returns-then-left-eq0 c = search last_bad

pub returns-then-b-eq0 : goal.returns-then-b-eq0
returns-then-b-eq0 c = search zero_bad

pub overflow_mul-result : goal.overflow_mul-result
overflow_mul-result c = search end_part_fits

pub overflow_add-result-then-b-lt128 : goal.overflow_add-result-then-b-lt128
overflow_add-result-then-b-lt128 c = search end_fits

pub returns-then-b-lt128 : goal.returns-then-b-lt128
returns-then-b-lt128 c = search one_good

pub overflow_mul-n : goal.overflow_mul-n
overflow_mul-n c = let small : c.from-b.result < 256 = omega arith in search next_part_fits

pub overflow_add-n : goal.overflow_add-n
overflow_add-n c = let small : c.from-b.result < 256 = omega arith in search next_fits

pub overflow_mul-unit : goal.overflow_mul-unit
overflow_mul-unit c = search unit_fits

pub loop-p-preserved : goal.loop-p-preserved
loop-p-preserved c = let small : c.from-b.result < 256 = omega arith in search goes_on

pub returns : goal.returns
returns c = search ends
