-- What a read put behind the bytes that stand there already is what the reader gave next. Assumes nothing.
use Rattle.std.proofs.Common.{◌≡◌, ℕ, ◌+◌, ◌≤◌, List, ◌++◌, length, take, rules, sym, ap, ◌∙◌, subst, length-take-le}
use Rattle.std.proofs.Math.Seq.{take-append-add}
use Rattle.std.proofs.lemmas.List.{take-append-le}
use Rattle.std.proofs.KnownBytes.{Consumes-trans}
use Rattle.std.specs.Io.KnownBytes.{Consumes}
use borrow.Rule.Slice.PartMut.{put_mid, post_of}
use Rattle.program_io.proofs.read_full.Goals as goal

-- n bytes of a part that begins at a
longer : (a k n : ℕ) (xs ys : List ℕ) → a ≤ length xs → n ≤ length ys
    → take a xs ++ take n ys ≡ take (a + n) (put_mid a k xs ys)
longer a k n xs ys within fits =
    let rest = ys ++ post_of a k xs in
    let front : length (take a xs) ≡ a = length-take-le a xs within in
    ap (λ l. take a xs ++ l) (sym (take-append-le n ys (post_of a k xs) fits))
    ∙ sym (take-append-add (take a xs) rest n)
    ∙ ap (λ m. take (m + n) (take a xs ++ rest)) front

pub loop-done-preserved : goal.loop-done-preserved
loop-done-preserved g c =
    let read = c.in_ok-n.ensures in
    let before = c.loop-done.invariant in (
      search rules,
      subst (Consumes _ _)
          (longer c.loop-done.done _ c.in_ok-n.n c.loop-done.buf c.read.new.buf before.0 read.bound.0)
          (Consumes-trans _ _ _ _ _ before.1 read.bytes.0),
    )
