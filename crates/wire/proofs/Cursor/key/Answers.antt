-- `Cursor::key` meets its contract: a number from 8 to 2 ^ 32 - 1, taken apart. Assumes nothing.
use Prim.Native.Nat.{◌^◌}
use mathlib.Core.Path.{sym, ◌∙◌}
use borrow.Author.Tests.{le-leb, lt-leb, lt-ltb, le-ltb}
use Rattle.wire.specs.Wire.{key}
use Rattle.wire.specs.Laws.At.{place, number_read, number_broken}
use Rattle.wire.proofs.Cursor.key.Goals as goal

pub returns-then-value-lt8 : goal.returns-then-value-lt8
unfolding key
returns-then-value-lt8 c =
    let a = c.args in
    let R = number_read a.s.now a.self.at _ _ (sym c.in_ok-value.was ∙ c.number.ensures) in
    rw (R.same, lt-leb 8 _ c.if-value-lt8.true)

pub returns-then-value-ge4294967296 : goal.returns-then-value-ge4294967296
unfolding key
returns-then-value-ge4294967296 c =
    let a = c.args in
    let R = number_read a.s.now a.self.at _ _ (sym c.in_ok-value.was ∙ c.number.ensures) in
    rw (R.same, le-leb 8 _ c.if-value-lt8.false, le-ltb _ (2 ^ 32) c.if-value-ge4294967296.true)

pub returns-in_err-value : goal.returns-in_err-value
unfolding key
returns-in_err-value c =
    let a = c.args in
    rw (number_broken a.s.now a.self.at (sym c.in_err-value.was ∙ c.number.ensures))
    c.from_residual.ensures

pub returns : goal.returns
unfolding key
returns c =
    let a = c.args in
    let R = number_read a.s.now a.self.at _ _ (sym c.in_ok-value.was ∙ c.number.ensures) in
    rw (
      R.same,
      le-leb 8 _ c.if-value-lt8.false,
      lt-ltb _ (2 ^ 32) c.if-value-ge4294967296.false,
      place a.s.now _ R.inside,
    )
