-- `decode_probes::trips_updates` meets its contract. Assumes nothing.
use mathlib.Core.Path.{sym, ◌∙◌}
use lib.ListN.{length}
use Rattle.decode_probes.proofs.Listing.{updates_unfit, updates_long, updates_broken, updates_many}
use Rattle.decode_probes.proofs.Listing.{updates_few}
use Rattle.decode_probes.proofs.trips_updates.Goals as goal

pub returns-then-updates-ne-UPDATES_LENGTH : goal.returns-then-updates-ne-UPDATES_LENGTH
returns-then-updates-ne-UPDATES_LENGTH c =
    updates_unfit (length c.args.updates.now) c.args.e.now c.if-updates-ne-UPDATES_LENGTH.true

pub returns-then-e-gt-MOST_MESSAGE : goal.returns-then-e-gt-MOST_MESSAGE
returns-then-e-gt-MOST_MESSAGE c =
    updates_long (length c.args.updates.now) c.args.e.now c.if-updates-ne-UPDATES_LENGTH.false
    c.if-e-gt-MOST_MESSAGE.true

pub returns-then-n-gt-MOST_UPDATES : goal.returns-then-n-gt-MOST_UPDATES
returns-then-n-gt-MOST_UPDATES c =
    updates_many (length c.args.updates.now) c.args.e.now c.if-updates-ne-UPDATES_LENGTH.false
    c.if-e-gt-MOST_MESSAGE.false
    (sym c.is_whole.ensures ∙ c.if-is_whole.true) c.updates_of-n.ensures
    c.if-n-gt-MOST_UPDATES.true

pub returns-then-is_whole : goal.returns-then-is_whole
returns-then-is_whole c =
    updates_few (length c.args.updates.now) c.args.e.now c.if-updates-ne-UPDATES_LENGTH.false
    c.if-e-gt-MOST_MESSAGE.false
    (sym c.is_whole.ensures ∙ c.if-is_whole.true) c.updates_of-n.ensures
    c.if-n-gt-MOST_UPDATES.false

pub returns : goal.returns
returns c =
    updates_broken (length c.args.updates.now) c.args.e.now c.if-updates-ne-UPDATES_LENGTH.false
    c.if-e-gt-MOST_MESSAGE.false
    (sym c.is_whole.ensures ∙ c.if-is_whole.false)
