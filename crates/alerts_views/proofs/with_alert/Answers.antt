-- `alerts_views::with_alert` meets its contract: by whether the alert is kept, and has few ids. Assumes nothing.
use Rattle.alerts_views.proofs.Keeping.{none_more, one_more, too_many}
use Rattle.alerts_views.proofs.with_alert.Goals as goal

pub returns-then-not-is_left : goal.returns-then-not-is_left
returns-then-not-is_left c = search none_more

pub returns-then-is_few : goal.returns-then-is_few
returns-then-is_few c = search one_more

pub returns : goal.returns
returns c = search too_many
