-- `optional_text` meets its contract.
use mathlib.Core.Path.{refl}
use Rattle.std.specs.Prelude.{Some}
use Prim.Native.Nat.{◌≤◌}
use lib.ListN.{length}
use Rattle.std.proofs.Common.{rules}
use lib.Seq.{slice}
use Rattle.formats_write.specs.Promises.Given.{Inside, given_text, text_w}
use Rattle.formats_write.proofs.Laws
use Rattle.formats_write.proofs.optional_text.Goals as goal

pub returns : goal.returns
returns c = λ h.
    let e = c.optional.ensures in
    Laws.optional_is text_w (given_text c.args.s.now) (λ t. slice t.from t.to c.args.s.now) refl
    (λ t. refl) c.args.v e.absent
    (λ t i. let k : Inside c.args.s.now (Some t) = rw i at h in
    e.present t i (text_w (slice t.from t.to c.args.s.now))
    (λ o q r n p. let from : t.from ≤ t.to = k.0 in let to : t.to ≤ length c.args.s.now = k.1 in search rules))
