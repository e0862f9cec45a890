-- `panel_probes::states_message` meets its contract.
use lib.ListN.{length}
use borrow.Author.Rules.{rules}
use Rattle.panel_probes.specs.Laws.Lengths.{given_at, short_length}
use Rattle.panel_probes.proofs.states_message.Goals as goal

pub message-requires : goal.message-requires
message-requires c = short_length (length c.args.old.now) c.length_of.ensures

pub returns : goal.returns
returns c = given_at c.length_of.ensures c.message.ensures
