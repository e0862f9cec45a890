-- `overlay_message::after_message` meets its contract. Assumes nothing.
use mathlib.Core.Path.{◌≡◌}
use Rattle.std.proofs.Common.{Some}
use Rattle.overlay_frame.specs.declared.FeedSpot.{FeedSpot}
use Rattle.overlay_message.specs.Laws.Message.{full_leads, known_ready, new_ready}
use Rattle.overlay_message.proofs.after_message.Goals as goal

pub change-requires-clause-ready : goal.change-requires-clause-ready
change-requires-clause-ready c =
    let old = c.requires.fact in
    let e : c.spot.result ≡ Some (FeedSpot.Known c.in-Known.from c.in-Known.body c.in-Known.count) =
    search (c.in_ok-spot.was, c.in-Known.is) in
    known_ready old.0 c.spot.ensures old.1 e

pub change-requires-in-New-clause-ready : goal.change-requires-in-New-clause-ready
change-requires-in-New-clause-ready c =
    let e : c.spot.result ≡ Some (FeedSpot.New c.in-New.from c.in-New.count) = search (c.in_ok-spot.was, c.in-New.is) in
    new_ready c.requires.fact.0 c.spot.ensures e

pub returns-in_err-spot : goal.returns-in_err-spot
returns-in_err-spot c = search (full_leads, c.requires.fact.0, c.from_residual.ensures, c.in_err-spot.was)
