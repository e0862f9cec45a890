-- `optional_number` meets its contract.
use mathlib.Core.Path.{refl}
use Rattle.formats.specs.Number.{number_w}
use Rattle.formats_write.specs.Promises.Given.{given_number}
use Rattle.formats_write.proofs.Laws
use Rattle.formats_write.proofs.optional_number.Goals as goal

pub returns : goal.returns
returns c =
    let e = c.optional.ensures in
    Laws.optional_is number_w given_number (λ n. n) refl (λ n. refl) c.args.v e.absent
    (λ x i. e.present x i (number_w x) (λ o q r n p. p.1))
