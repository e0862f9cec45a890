-- `Cursor::text` meets its contract: a length, and as many bytes. Assumes nothing.
use mathlib.Core.Path.{sym, ◌∙◌}
use Rattle.wire.specs.Wire.{length_delimited}
use Rattle.wire.specs.Laws.At.{number_read, number_broken}
use Rattle.wire.proofs.Cursor.text.Goals as goal

pub returns-in_err-value : goal.returns-in_err-value
unfolding length_delimited
returns-in_err-value c =
    let a = c.args in
    rw (number_broken a.s.now a.self.at (sym c.in_err-value.was ∙ c.number.ensures)) c.from_residual.ensures

pub returns : goal.returns
unfolding length_delimited
returns c =
    let a = c.args in
    let R = number_read a.s.now a.self.at _ _ (sym c.in_ok-value.was ∙ c.number.ensures) in
    rw R.same c.bytes.ensures
