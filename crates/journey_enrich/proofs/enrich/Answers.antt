-- `enrich` meets its contract.
use borrow.Author.Rules.{rules}
use Rattle.journey_enrich.specs.Laws.Enrich.{enriched_out, enriched}
use Rattle.journey_enrich.proofs.enrich.Goals as goal

pub returns-then-card-at : goal.returns-then-card-at
returns-then-card-at c = search enriched_out

pub returns : goal.returns
returns c = search enriched
