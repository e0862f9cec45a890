-- `decode_write::put_number` meets its contract. Assumes nothing.
use Rattle.formats.specs.Number.{number_w}
use Rattle.decode_write.specs.Laws.Groups.{from_at, was_full}
use Rattle.decode_write.proofs.put_number.Goals as goal

pub returns-in_err-at : goal.returns-in_err-at
returns-in_err-at c =
    let z = was_full {l = c.args.out.now} {w = c.args.w} (number_w c.args.n) c.in_err-at.was in
    rw c.from_residual.ensures z

pub returns : goal.returns
returns c = from_at c.in_ok-at.was c.add_number.ensures
