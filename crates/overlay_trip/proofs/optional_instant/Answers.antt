-- `overlay_trip::optional_instant` meets its contract.
use mathlib.Core.Path.{◌≡◌}
use Prim.Native.Nat.{◌<◌}
use native.Mathlib.Omega.{arith}
use lib.ListN.{length, get_or}
use Rattle.std.proofs.lemmas.Grind.{common_steps}
use Rattle.formats_check.specs.Laws.Checked.{optional_given}
use Rattle.overlay_trip.proofs.optional_instant.Goals as goal

pub returns-in-1 : goal.returns-in-1
returns-in-1 c =
    let inside : c.args.at < length c.args.old.now = grind (arith, common_steps, c.in_ok-get.ensures) in
    let byte : c.in_ok-get.field-0.now ≡ get_or c.args.old.now c.args.at 0 = grind
    (arith, common_steps, c.in_ok-get.ensures) in
    search (optional_given, inside, byte, c.in-1)
