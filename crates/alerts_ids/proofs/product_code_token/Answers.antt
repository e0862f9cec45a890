-- `alerts_ids::product_code_token` meets its contract. The invariant: the first code is the first from a on.
use Rattle.alerts_ids.specs.Laws.Pieces.{uncoded_start, code_found, no_code, uncoded_more}
use Rattle.alerts_ids.proofs.product_code_token.Goals as goal

pub loop-a-init : goal.loop-a-init
loop-a-init c = uncoded_start _

pub returns-then-is_code : goal.returns-then-is_code
returns-then-is_code c = search (code_found)

pub returns-then-x-e : goal.returns-then-x-e
returns-then-x-e c = search (no_code)

pub loop-a-preserved : goal.loop-a-preserved
loop-a-preserved c = search (uncoded_more)
