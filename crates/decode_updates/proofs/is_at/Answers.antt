-- `decode_updates::is_at` meets its contract.
use native.Mathlib.Omega.{arith}
use borrow.Author.Tests.{lt-ltb, le-ltb}
use Rattle.decode_updates.proofs.is_at.Goals as goal

pub returns-else-r-n : goal.returns-else-r-n
returns-else-r-n c = rw (le-ltb c.args.r c.args.n (omega arith))

pub returns-then-r-n : goal.returns-then-r-n
returns-then-r-n c = rw (lt-ltb c.args.r c.args.n (omega arith))
