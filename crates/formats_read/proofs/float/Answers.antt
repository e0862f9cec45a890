-- `float` meets its contract.
use mathlib.Core.Path.{◌≡◌}
use Rattle.std.specs.Prelude.{Some}
use Rattle.std.proofs.lemmas.Grind.{common_steps}
use native.Mathlib.Omega.{arith}
use Rattle.formats_read.proofs.Laws
use Rattle.formats_read.proofs.float.Goals as goal

pub returns : goal.returns
returns c = λ n q h.
    let e : c.float.result ≡ Some (n, q) = Laws.bits h c.float.ensures in grind (arith, common_steps)
