-- `alerts_apply::texts::text_fits` meets its contract.
use mathlib.Core.Path.{ap}
use mathlib.Core.Bool.{not}
use Rattle.alerts_apply.specs.Laws.Texts.{text_room}
use Rattle.alerts_apply.specs.Laws.Words.{fits_empty, fits_no_room, fits_told}
use borrow.Author.Rules.{rules}
use Rattle.alerts_apply.proofs.texts.text_fits.Goals as goal

pub returns-then-short-eq0 : goal.returns-then-short-eq0
returns-then-short-eq0 c = search (fits_empty)

pub returns-then-not-has_room : goal.returns-then-not-has_room
returns-then-not-has_room c = search (fits_no_room)

pub fits_known-requires : goal.fits_known-requires
fits_known-requires c = (
  search rules,
  text_room c.text_at-h.ensures c.text_at-d.ensures
      c.has_room.ensures (ap not c.if-not-has_room.false),
)

pub returns : goal.returns
returns c = search (fits_told)
