-- `decode::add_byte` meets its contract.
use Rattle.decode.proofs.Writing.{added_byte}
use Rattle.decode.proofs.add_byte.Goals as goal

pub returns : goal.returns
returns c = added_byte c.args.out.now c.args.at c.args.b c.requires
