-- `decode_updates::place_of`: behind the last, or found by halving. Assumes nothing.
use Rattle.decode_updates.proofs.Noting.{rank_all}
use Rattle.decode_updates.proofs.place_of.Goals as goal

pub returns-then-updates-n : goal.returns-then-updates-n
returns-then-updates-n c = search rank_all
