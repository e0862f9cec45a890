-- `leg` meets its contract.
use Rattle.journey_alerts.specs.Laws.Leg.{leg_none, leg_some}
use borrow.Author.Rules.{rules}
use Rattle.journey_alerts.proofs.leg.Goals as goal

pub returns-in_default : goal.returns-in_default
returns-in_default c =
    let h = c.requires.sound_labels in
    leg_none c.texts-t.ensures c.alerts.ensures c.in_default.is h.0 h.1

pub returns : goal.returns
returns c = search leg_some
