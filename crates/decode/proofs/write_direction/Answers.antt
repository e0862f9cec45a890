-- `decode::write_direction` writes a direction in decimal. Assumes nothing.
use native.Mathlib.Omega.{arith}
use Rattle.decode.specs.Laws.Written.{none, written_whole}
use Rattle.decode.proofs.write_direction.Goals as goal

pub shape_of-keys : goal.shape_of-keys
shape_of-keys c = written_whole c.decimal.ensures

pub returns-in-Some : goal.returns-in-Some
returns-in-Some c = rw c.in-Some.is c.decimal.ensures

pub returns-in-None : goal.returns-in-None
returns-in-None c = rw c.in-None.is (none c.args.keys.now c.args.at (omega arith))
