-- `alerts_views::is_few` meets its contract: by its selectors, or by its ids of each kind. Assumes nothing.
use Rattle.alerts_views.proofs.Counting.{few_selectors, many_trips, many_routes, by_stops}
use Rattle.alerts_views.proofs.is_few.Goals as goal

pub returns-then-count_selectors-le-MOST_IDS : goal.returns-then-count_selectors-le-MOST_IDS
returns-then-count_selectors-le-MOST_IDS c = search few_selectors

pub returns-then-count_ids-gt-MOST_IDS : goal.returns-then-count_ids-gt-MOST_IDS
returns-then-count_ids-gt-MOST_IDS c = search many_trips

pub returns-then-count_ids-gt-MOST_IDS-2 : goal.returns-then-count_ids-gt-MOST_IDS-2
returns-then-count_ids-gt-MOST_IDS-2 c = search many_routes

pub returns : goal.returns
returns c = search by_stops
