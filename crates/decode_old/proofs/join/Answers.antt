-- `decode_old::join`: the entries behind have joined, and the others are ahead. Assumes nothing.
use borrow.Author.Rules.{rules}
use Prim.Native.Nat.{◌+◌, ◌-◌, ◌<◌}
use mathlib.Core.Path.{◌≡◌, refl}
use native.Mathlib.Omega.{arith}
use Rattle.formats_read.specs.Laws.Walk.{begin, onward}
use Rattle.decode_old.proofs.Joining.{filled_none, filled_more, sound_now, few_now, entry_now, joins}
use Rattle.decode_old.proofs.join.Goals as goal

pub loop-init : goal.loop-init
loop-init c = (
  refl,
  refl,
  refl,
  let z : c.number-count.result.value - 0 ≡ c.number-count.result.value = omega arith in
      rw z (begin (filled_none c.requires.lent)),
)

pub file_entry-passed-requires-clause-fact : goal.file_entry-passed-requires-clause-fact
file_entry-passed-requires-clause-fact c =
    let S = c.requires.stands in
    let N = c.number-count.ensures in
    let W = c.loop.invariant.3 in
    let z : 0 < c.number-count.result.value - c.loop.counter = omega (arith, c.loop-test.true) in
    record { sound = sound_now S N W; few = few_now S N W z }

pub file_entry-passed-requires-clause-entry : goal.file_entry-passed-requires-clause-entry
file_entry-passed-requires-clause-entry c =
    let S = c.requires.stands in
    let N = c.number-count.ensures in
    let W = c.loop.invariant.3 in
    let z : 0 < c.number-count.result.value - c.loop.counter = omega (arith, c.loop-test.true) in
    entry_now S N W z

pub loop-preserved : goal.loop-preserved
loop-preserved c =
    let P = c.file_entry-passed.ensures in
    let n = c.number-count.result.value in
    let z : 0 < n - c.loop.counter = omega (arith, c.loop-test.true) in
    let y : n - (c.loop.counter + 1) ≡ n - c.loop.counter - 1 = omega arith in (
      search rules,
      search rules,
      search rules,
      rw y (onward c.loop.invariant.3 _ z P.ends (filled_more P)),
    )

pub returns : goal.returns
returns c = joins c.requires.stands c.number-count.ensures c.loop.invariant.3 (omega (arith, c.loop-test.false))
