-- `ends_joined` meets its contract.
use Rattle.overlay_ids.specs.Laws.Joined.{ends_short, ends_bare, ends_less, ends_other, ends_same}
use Rattle.overlay_ids.proofs.ends_joined.Goals as goal

pub returns-then-leg-feed : goal.returns-then-leg-feed
returns-then-leg-feed c = search ends_short

pub returns-then-m-lt2 : goal.returns-then-m-lt2
returns-then-m-lt2 c = search ends_bare

pub returns-then-m-rest : goal.returns-then-m-rest
returns-then-m-rest c = search ends_less

pub returns-then-leg-p-ne58 : goal.returns-then-leg-p-ne58
returns-then-leg-p-ne58 c = search ends_other

pub returns : goal.returns
returns c = search ends_same
