-- `decode_write::put_signed` meets its contract, by the kind of the value. Assumes nothing.
use borrow.Author.Rules.{rules}
use mathlib.Core.Path.{ap, ◌∙◌}
use mir.Facts.{to_z-of_z}
use mir.Syntax.{w64}
use mir.Val.{SFits}
use Rattle.formats.specs.Number.{number_w, zig}
use Rattle.formats_write.specs.Laws.Adds.{then, same}
use Rattle.formats_write.specs.Promises.Given.{given_signed}
use Rattle.decode_write.specs.Promises.Written.{signed_w}
use Rattle.decode_write.proofs.put_signed.Goals as goal

pub returns-in-None : goal.returns-in-None
returns-in-None c = rw (ap given_signed c.in-None.is) c.byte.ensures

pub returns-in-Some : goal.returns-in-Some
returns-in-Some c =
    let f : SFits w64 c.in-Some.z = search rules in
    rw (ap given_signed c.in-Some.is)
    (then c.byte-q.ensures (same c.put_number.ensures (ap number_w (c.to_zigzag.ensures ∙ ap zig (to_z-of_z f)))))
