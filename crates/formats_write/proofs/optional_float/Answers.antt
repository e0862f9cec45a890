-- `optional_float` meets its contract.
use mathlib.Core.Path.{refl}
use Rattle.formats.specs.Number.{little_w}
use Rattle.formats_write.specs.Promises.Given.{given_number}
use Rattle.formats_write.proofs.Laws
use Rattle.formats_write.proofs.optional_float.Goals as goal

pub returns : goal.returns
returns c =
    let e = c.optional.ensures in
    Laws.optional_is (little_w 8) given_number (λ n. n) refl (λ n. refl) c.args.v e.absent
    (λ x i. e.present x i ((little_w 8) x) (λ o q r n p. p.1))
