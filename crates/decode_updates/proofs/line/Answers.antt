-- `decode_updates::line` puts three numbers in, one after the other. Assumes nothing.
use mathlib.Core.Path.{ap, ◌∙◌}
use Prim.Native.Nat.{◌+◌, ◌*◌}
use Rattle.slices.specs.Promises.Inserted.{inserted}
use Rattle.decode_updates.proofs.line.Goals as goal

pub returns : goal.returns
returns c =
    let a = c.args in
    c.insert-3.ensures ∙ ap (λ u. inserted u (3 * a.r + 2) (3 * a.n + 2) a.to)
    (c.insert-2.ensures ∙ ap (λ u. inserted u (3 * a.r + 1) (3 * a.n + 1) a.from)
    c.insert.ensures)
