-- `headers` meets its contract.
use borrow.Author.Rules.{rules}
use Rattle.journey_enrich.specs.Laws.Headers.{headers_none, headers_few, headers_put}
use Rattle.journey_enrich.proofs.headers.Goals as goal

pub returns-then-froms-n : goal.returns-then-froms-n
returns-then-froms-n c = search headers_none

pub returns-then-tos-n : goal.returns-then-tos-n
returns-then-tos-n c = search headers_few

pub returns : goal.returns
returns c = search headers_put
