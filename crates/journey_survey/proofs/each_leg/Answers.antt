-- `each_leg`: the legs behind p are seen.
use Rattle.journey_survey.specs.Laws.Legs.{Walking, lent_kept, sound_none, walk_start, walk_step, walk_stop}
use mathlib.Core.Path.{◌≡◌, refl}
use lib.ListN.{length}
use borrow.Author.Rules.{rules}
use Rattle.journey_survey.proofs.each_leg.Goals as goal

pub loop-left-init : goal.loop-left-init
loop-left-init c = (
  refl,
  refl,
  refl,
  refl,
  refl,
  walk_start (sound_none c.requires.froms_len.0 c.requires.froms_len.1) c.requires.froms_len.2,
)

pub leg-c-requires-clause-noted : goal.leg-c-requires-clause-noted
leg-c-requires-clause-noted c = c.requires.noted

pub leg-c-requires-clause-lent : goal.leg-c-requires-clause-lent
leg-c-requires-clause-lent c =
    let i = c.loop-left.invariant in
    lent_kept c.requires.lent i.0 i.1

pub leg-c-requires-clause-sound_labels : goal.leg-c-requires-clause-sound_labels
leg-c-requires-clause-sound_labels c =
    let i = c.loop-left.invariant in
    (i.5.sound, i.5.knows)

pub loop-left-preserved : goal.loop-left-preserved
loop-left-preserved c = (
  search rules,
  search rules,
  search rules,
  search rules,
  search rules,
  walk_step c.loop-left.invariant.5 c.loop-left-test.true c.leg-c.ensures c.past_leg-p.ensures,
)

pub returns : goal.returns
returns c = walk_stop c.loop-left.invariant.5 c.loop-left-test.false c.begin.ensures refl
