-- `decode::add` writes a text. Assumes nothing.
use Rattle.decode.proofs.Writing.{added_text}
use Rattle.decode.proofs.add.Goals as goal

pub returns : goal.returns
returns c =
    let a = c.args in
    added_text a.out.now a.at a.x.now c.copy.new.d c.requires c.copy.ensures
