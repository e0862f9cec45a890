-- `timed` meets its contract.
use Rattle.panel_questions.specs.Laws.Vehicles.{timed_five, timed_six, timed_fine, timed_not}
use Rattle.panel_questions.proofs.timed.Goals as goal

pub returns-then-n-eq5 : goal.returns-then-n-eq5
returns-then-n-eq5 c = timed_five c.args.n c.args.clock c.if-n-eq5.true

pub returns-then-n-eq6 : goal.returns-then-n-eq6
returns-then-n-eq6 c = let a = c.args in timed_six a.n a.clock c.if-n-eq5.false c.if-n-eq6.true

pub returns-then-clock : goal.returns-then-clock
returns-then-clock c = timed_fine c.args.n c.if-n-eq5.false c.if-n-eq6.false c.if-clock.true

pub returns : goal.returns
returns c = timed_not c.args.n c.if-n-eq5.false c.if-n-eq6.false c.if-clock.false
