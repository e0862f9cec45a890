-- `formats_check::optional_text` meets its contract.
use mathlib.Core.Path.{◌≡◌, refl}
use Prim.Native.Nat.{◌<◌}
use lib.ListN.{length, get_or}
use native.Mathlib.Omega.{arith}
use Rattle.std.proofs.lemmas.Grind.{common_steps}
use Rattle.formats_check.specs.Laws.Checked.{optional_given}
use Rattle.formats_check.proofs.optional_text.Goals as goal

pub returns-in-1 : goal.returns-in-1
returns-in-1 c =
    let inside : c.args.at < length c.args.s.now = grind (arith, common_steps, c.in_ok-get.ensures) in
    let one : get_or c.args.s.now c.args.at 0 ≡ 1 = grind (arith, common_steps, c.in_ok-get.ensures) in
    optional_given _ inside refl one c.text.ensures
