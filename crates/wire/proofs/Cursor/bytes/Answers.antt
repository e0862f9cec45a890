-- `Cursor::bytes` meets its contract: the bytes are there, or not. Assumes nothing.
use native.Mathlib.Omega.{arith}
use native.Mathlib.Nat.{pos_of_ne-zero, sub-zero}
use mathlib.Core.Path.{◌≡◌}
use Prim.Native.Nat.{◌+◌, ◌-◌, ◌≤◌}
use lib.Seq.{length-take-le}
use lib.ListN.{length, drop, length-drop, drop_of_length-le}
use borrow.Author.Tests.{le-leb, lt-leb}
use Rattle.wire.specs.Wire.{bytes}
use Rattle.wire.proofs.Cursor.bytes.Goals as goal

pub returns-then-len-eq0 : goal.returns-then-len-eq0
unfolding bytes
returns-then-len-eq0 c =
    let a = c.args in
    rw (drop_of_length-le a.s.now {i = a.self.at} (omega arith), c.if-len-eq0.true) (simp sub-zero)

pub returns-then-s-at : goal.returns-then-s-at
unfolding bytes
returns-then-s-at c =
    let a = c.args in
    rw (
      drop_of_length-le a.s.now {i = a.self.at} (omega arith),
      lt-leb a.n 0 (pos_of_ne-zero c.if-len-eq0.false),
    )

pub returns-then-len-s : goal.returns-then-len-s
unfolding bytes
returns-then-len-s c =
    let a = c.args in
    let d = drop a.self.at a.s.now in
    let h : a.n ≤ length d = omega (arith, length-drop a.self.at a.s.now) in
    let p : length a.s.now - length (drop a.n d) ≡ a.self.at + a.n =
    omega (arith, length-drop a.n d, length-drop a.self.at a.s.now) in
    let q : a.self.at + a.n - a.n ≡ a.self.at = omega arith in
    rw (le-leb a.n (length d) h, length-take-le a.n d h, p, q)

pub returns-else-len-s : goal.returns-else-len-s
unfolding bytes
returns-else-len-s c =
    let a = c.args in
    rw (lt-leb a.n (length (drop a.self.at a.s.now))
    (omega (arith, length-drop a.self.at a.s.now)))
