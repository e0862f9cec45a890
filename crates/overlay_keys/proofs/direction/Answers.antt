-- `overlay_keys::direction` meets its contract.
use mathlib.Core.Path.{◌≡◌}
use Prim.Native.Nat.{◌<◌, ◌≤◌}
use native.Mathlib.Omega.{arith}
use lib.ListN.{length, get_or}
use Rattle.std.proofs.lemmas.Grind.{common_steps}
use Rattle.overlay_keys.specs.Laws.Keys.{direction_bad, direction_end, direction_none, direction_so}
use Rattle.overlay_keys.proofs.direction.Goals as goal

pub returns-in_err-c : goal.returns-in_err-c
returns-in_err-c c =
    let past : length c.args.old.now ≤ c.args.y = grind (arith, common_steps, c.in_err-c.ensures) in
    rw c.from_residual.ensures (direction_end past)

pub returns-then-c-eq0 : goal.returns-then-c-eq0
returns-then-c-eq0 c =
    let inside : c.args.y < length c.args.old.now = grind (arith, common_steps, c.in_ok-c.ensures) in
    let byte : c.in_ok-c.field-0.now ≡ get_or c.args.old.now c.args.y 0 = grind
    (arith, common_steps, c.in_ok-c.ensures) in
    search direction_none

pub returns-in_err-n : goal.returns-in_err-n
returns-in_err-n c =
    let inside : c.args.y < length c.args.old.now = grind (arith, common_steps, c.in_ok-c.ensures) in
    let byte : c.in_ok-c.field-0.now ≡ get_or c.args.old.now c.args.y 0 = grind
    (arith, common_steps, c.in_ok-c.ensures) in
    let other : get_or c.args.old.now c.args.y 0 ≡ 0 → ⊥ = rw (← byte) c.if-c-eq0.false in
    rw c.from_residual-in_err-n.ensures (search (direction_bad, inside, other, c.in_err-n.was))

pub returns : goal.returns
returns c =
    let inside : c.args.y < length c.args.old.now = grind (arith, common_steps, c.in_ok-c.ensures) in
    let byte : c.in_ok-c.field-0.now ≡ get_or c.args.old.now c.args.y 0 = grind
    (arith, common_steps, c.in_ok-c.ensures) in
    let other : get_or c.args.old.now c.args.y 0 ≡ 0 → ⊥ = rw (← byte) c.if-c-eq0.false in
    search (direction_so, inside, other, c.in_ok-n.was)
