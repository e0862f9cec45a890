-- `past_optional` meets its contract.
use mathlib.Core.Path.{◌≡◌}
use Prim.Native.Nat.{◌<◌}
use lib.ListN.{length, get_or}
use native.Mathlib.Omega.{arith}
use Rattle.std.proofs.lemmas.Grind.{common_steps}
use Rattle.formats_skip.specs.Laws.Passes.{optional_some}
use Rattle.formats_skip.proofs.past_optional.Goals as goal

pub returns-in-Some-eq1 : goal.returns-in-Some-eq1
returns-in-Some-eq1 g c = λ f h.
    let inside : c.args.at < length c.args.s.now = grind (arith, common_steps, c.in-Some-eq1.ensures) in
    let one : get_or c.args.s.now c.args.at 0 ≡ 1 = grind (arith, common_steps, c.in-Some-eq1.ensures) in
    optional_some inside one (h _ _ _ c.past.ensures)
