-- `read_clock` meets its contract.
use Rattle.panel_questions.specs.Laws.Clock.{clock_early, clock_late, clock_above, clock_within}
use Rattle.panel_questions.proofs.read_clock.Goals as goal

pub returns-then-clock-lt0 : goal.returns-then-clock-lt0
returns-then-clock-lt0 c = clock_early c.args.clock c.ranges.clock c.if-clock-lt0.true

pub returns-then-clock-gt4102444800 : goal.returns-then-clock-gt4102444800
returns-then-clock-gt4102444800 c = clock_late c.args.clock c.ranges.clock c.if-clock-gt4102444800.true

pub limit_of-requires : goal.limit_of-requires
limit_of-requires c = clock_above c.args.clock c.ranges.clock c.if-clock-lt0.false

pub returns : goal.returns
returns c =
    clock_within c.args.clock c.ranges.clock c.if-clock-lt0.false c.if-clock-gt4102444800.false c.limit_of.ensures
