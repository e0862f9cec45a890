-- `is_lent` meets its contract.
use Rattle.replay_reading.specs.Laws.Card.{lent_is}
use Rattle.replay_reading.proofs.is_lent.Goals as goal

pub returns : goal.returns
returns c = lent_is c.args.w.candidates c.args.w.met c.args.w.noted c.args.w.known
