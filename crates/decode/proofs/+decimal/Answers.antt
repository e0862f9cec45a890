-- `decode::decimal` writes a number in decimal: the digits in front first. Assumes nothing.
use Prim.Native.Nat.{◌-◌, ◌/◌}
use native.Mathlib.Omega.{arith}
use Rattle.decode.specs.Laws.Written.{then, written_whole}
use Rattle.decode.proofs.Writing.{decimal_short, added_none, added_digit, added_more}
use Rattle.decode.proofs.+decimal.Goals as goal

pub returns-then-k-eq0 : goal.returns-then-k-eq0
returns-then-k-eq0 t c = added_none c.args.k c.args.n c.if-k-eq0.true (omega arith)

pub shape_of-out-then-n-lt10 : goal.shape_of-out-then-n-lt10
shape_of-out-then-n-lt10 t c = written_whole c.add_byte.ensures

pub returns-then-n-lt10 : goal.returns-then-n-lt10
returns-then-n-lt10 t c =
    let a = c.args in
    added_digit a.k a.n c.if-k-eq0.false
    c.if-n-lt10.true c.digit.ensures
    c.add_byte.ensures

pub add_byte-requires-2 : goal.add_byte-requires-2
add_byte-requires-2 t c =
    let a = c.args in
    omega (
      arith,
      c.decimal-p.ensures.next,
      decimal_short (a.k - 1) (a.n / 10),
      written_whole c.decimal-p.ensures,
    )

pub shape_of-out : goal.shape_of-out
shape_of-out t c =
    written_whole
    (then c.decimal-p.ensures
    c.add_byte-2.ensures)

pub returns : goal.returns
returns t c =
    let a =
    c.args in
    added_more a.k a.n
    c.if-k-eq0.false
    c.if-n-lt10.false
    c.decimal-p.ensures
    c.digit-2.ensures c.add_byte-2.ensures
