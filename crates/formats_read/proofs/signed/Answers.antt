-- `signed` meets its contract.
use Rattle.formats_read.proofs.Laws
use mathlib.Core.Path.{◌∙◌}
use mir.Facts.{to_z-of_z}
use mir.Syntax.{w64}
use Rattle.formats_read.proofs.signed.Goals as goal

pub returns : goal.returns
returns c =
    λ lo hi z q h. to_z-of_z {w = w64} (record { sfits = c.from_zigzag.type_inv }) ∙ c.from_zigzag.ensures
    ∙ Laws.signed_is h c.number.ensures
