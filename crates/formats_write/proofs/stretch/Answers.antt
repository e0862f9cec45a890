-- `stretch` meets its contract.
use mathlib.Core.Path.{◌≡◌}
use Prim.Native.Nat.{◌-◌}
use lib.ListN.{take, drop}
use native.Mathlib.Omega.{arith}
use Rattle.std.proofs.lemmas.Grind.{common_steps}
use Rattle.formats_write.proofs.Laws
use Rattle.formats_write.proofs.stretch.Goals as goal

pub returns : goal.returns
returns c = λ h k.
    let cut : c.in_ok-bytes.bytes.now ≡ take (c.args.to - c.args.from) (drop c.args.from c.args.s.now) =
    grind (arith, common_steps, c.in_ok-bytes.ensures) in
    search (Laws.stretch_in, c.in_ok-at.was)
