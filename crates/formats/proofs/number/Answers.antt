-- `formats::number` meets its contract.
use native.Mathlib.Omega.{arith}
use Rattle.std.proofs.lemmas.Grind.{common_steps}
use Rattle.formats.proofs.Numbers.{front_more}
use Rattle.formats.proofs.number.Goals as goal

pub returns : goal.returns
returns c = grind (arith, common_steps, front_more, c.in_ok-b.ensures, c.type_inv.s c.args.at)
