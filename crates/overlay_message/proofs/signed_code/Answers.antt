-- `overlay_message::signed_code` meets its contract. Assumes nothing.
use native.Mathlib.Omega.{arith}
use Rattle.overlay_message.specs.Laws.Bodies.{lower_code, upper_code}
use Rattle.overlay_message.proofs.signed_code.Goals as goal

pub returns-then-n-lt9223372036854775808 : goal.returns-then-n-lt9223372036854775808
returns-then-n-lt9223372036854775808 c = lower_code c.args.n c.if-n-lt9223372036854775808.true

pub returns : goal.returns
returns c = upper_code c.args.n c.if-n-lt9223372036854775808.false (omega arith)
