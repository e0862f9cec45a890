-- `overlay_keys::longer` meets its contract.
use Rattle.overlay_keys.specs.Laws.Keys.{longer_date, longer_dated, longer_delay, longer_flag, longer_so}
use Rattle.overlay_keys.specs.Laws.Keys.{span_inside}
use Rattle.overlay_keys.proofs.longer.Goals as goal

pub returns-in_default : goal.returns-in_default
returns-in_default c = search longer_delay

pub returns-in_default-at_most : goal.returns-in_default-at_most
returns-in_default-at_most c = search longer_flag

pub returns-in_default-printable_at : goal.returns-in_default-printable_at
returns-in_default-printable_at c = search longer_date

pub dated-requires-clause-inside_2 : goal.dated-requires-clause-inside_2
dated-requires-clause-inside_2 c = search span_inside

pub returns-then-dated : goal.returns-then-dated
returns-then-dated c = search longer_dated

pub incomplete-requires-clause-inside_2 : goal.incomplete-requires-clause-inside_2
incomplete-requires-clause-inside_2 c = search span_inside

pub returns : goal.returns
returns c = search longer_so
