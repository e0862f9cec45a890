-- `optional_signed` meets its contract.
use mathlib.Core.Path.{refl}
use Rattle.formats.specs.Number.{number_w, zig}
use Rattle.formats_write.specs.Promises.Given.{given_signed}
use Rattle.formats_write.proofs.Laws
use Rattle.formats_write.proofs.optional_signed.Goals as goal

pub returns : goal.returns
returns c =
    let e = c.optional.ensures in
    Laws.optional_is (λ z. number_w (zig z)) given_signed (λ z. z) refl (λ z. refl) c.args.v e.absent
    (λ x i. e.present x i (number_w (zig x)) (λ o q r n p. p.1))
