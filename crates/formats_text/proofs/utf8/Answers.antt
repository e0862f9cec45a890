-- `formats_text::utf8` meets its contract.
use Rattle.std.proofs.Common.{arith}
use Rattle.formats_text.proofs.Bytes.{walk_plain, walk_end}
use Rattle.formats_text.proofs.utf8.Goals as goal

pub loop-i-preserved-then-all_within : goal.loop-i-preserved-then-all_within
loop-i-preserved-then-all_within c = (omega arith, search walk_plain)

pub returns : goal.returns
returns c = search walk_end
