-- `panel_probes::states_card` meets its contract.
use lib.ListN.{length}
use borrow.Author.Rules.{rules}
use Rattle.panel_probes.specs.Laws.Lengths.{given_at, short_length}
use Rattle.panel_probes.proofs.states_card.Goals as goal

pub card-requires : goal.card-requires
card-requires c = short_length (length c.args.old.now) c.length_of.ensures

pub returns : goal.returns
returns c = given_at c.length_of.ensures c.card.ensures
