-- `formats::little` meets its contract.
use Prim.Native.Nat.{ℕ, ◌^◌, ◌<◌}
use mathlib.Core.Path.{◌≡◌}
use lib.ListN.{length, get_or}
use native.Mathlib.Omega.{arith}
use Rattle.std.proofs.lemmas.Grind.{common_steps}
use Rattle.formats.proofs.Numbers.{little_end, little_below}
use Rattle.formats.proofs.+little.Goals as goal

pub returns-in_err-b : goal.returns-in_err-b
returns-in_err-b t c = grind (arith, common_steps, little_end, c.in_err-b.ensures)

below : (t : ℕ) (c : goal.After-from t) → c.in_ok-h.h < 2 ^ 56
below t c =
    let inside : c.args.at < length c.args.s.now = grind (arith, common_steps, c.in_ok-b.ensures) in
    let byte : c.from.result ≡ get_or c.args.s.now c.args.at 0 = grind (arith, common_steps, c.in_ok-b.ensures) in
    let small : c.from.result < 256 = omega (arith, c.type_inv.s c.args.at) in
    search (little_below, c.in_ok-h.was)

pub overflow_mul-result : goal.overflow_mul-result
overflow_mul-result t c = omega (arith, below t c)

pub overflow_add-result : goal.overflow_add-result
overflow_add-result t c = omega (arith, below t c)
