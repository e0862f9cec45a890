-- `after_alerts` meets its contract.
use mathlib.Core.Path.{◌≡◌}
use Rattle.std.proofs.Common.{Some}
use Rattle.overlay_frame.specs.declared.FeedSpot.{FeedSpot}
use Rattle.overlay_sheets.specs.Laws.Sheets.{alerts_full}
use Rattle.overlay_sheets.proofs.after_alerts.Goals as goal

pub returns-in_err-spot : goal.returns-in_err-spot
returns-in_err-spot c = λ s vs h u I w. search (alerts_full, c.from_residual.ensures, c.in_err-spot.was)

pub returns-in-Known : goal.returns-in-Known
returns-in-Known c =
    λ s vs h u I w.
    let e : c.spot.result ≡ Some (FeedSpot.Known c.in-Known.from c.in-Known.body c.in-Known.count) =
    search (c.in_ok-spot.was, c.in-Known.is) in
    let B = (c.spot.ensures.to h u).known _ _ _ e in
    c.put_alerts.ensures s vs B I w

pub returns-in-New : goal.returns-in-New
returns-in-New c =
    λ s vs h u I w.
    let e : c.spot.result ≡ Some (FeedSpot.New c.in-New.from c.in-New.count) = search (c.in_ok-spot.was, c.in-New.is) in
    let B = (c.spot.ensures.to h u).new _ _ e in
    c.put_alerts-in-New.ensures s vs B I w
