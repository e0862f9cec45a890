-- `decode_write::key_has_at` meets its contract. Assumes nothing.
use Rattle.decode_write.proofs.key_has_at.Goals as goal

pub returns : goal.returns
returns c = let h = c.part.ensures in let w = c.word-len.ensures in cc
