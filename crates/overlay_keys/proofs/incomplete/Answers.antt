-- `overlay_keys::incomplete` meets its contract.
use Rattle.overlay_keys.specs.Laws.Keys.{incomplete_route, incomplete_so, incomplete_time, incomplete_way}
use Rattle.overlay_keys.specs.Laws.Keys.{span_inside}
use Rattle.overlay_keys.proofs.incomplete.Goals as goal

pub returns-in_default : goal.returns-in_default
returns-in_default c = search incomplete_route

pub returns-in_default-optional_word : goal.returns-in_default-optional_word
returns-in_default-optional_word c = search incomplete_way

pub returns-in_default-printable_at : goal.returns-in_default-printable_at
returns-in_default-printable_at c = search incomplete_time

pub matches-requires-clause-inside_3 : goal.matches-requires-clause-inside_3
matches-requires-clause-inside_3 c = search span_inside

pub matches-requires-clause-inside_4 : goal.matches-requires-clause-inside_4
matches-requires-clause-inside_4 c = search span_inside

pub returns : goal.returns
returns c = search incomplete_so
