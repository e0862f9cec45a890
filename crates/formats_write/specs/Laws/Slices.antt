-- Law. The bytes of a list from a up to e: as a part of a part, and two that meet.
use Rattle.std.specs.Prelude.{◌≡◌, List, ◌++◌, ℕ, ◌+◌, ◌-◌, ◌≤◌, length, take, drop}
use Rattle.std.proofs.Common.{sym, ap, ◌∙◌, arith, length-take-le, take-add, drop-drop, drop_at}
use Rattle.std.proofs.Math.Seq.{slice}

pub slice_is : (a e : ℕ) (s : List ℕ) → a ≤ e → e ≤ length s → take (e - a) (drop a s) ≡ slice a e s
slice_is a e s h k =
    let n : a + (e - a) ≡ e = omega arith in
    sym (drop_at (take a s) (take (e - a) (drop a s)) a (length-take-le a s (omega arith)))
    ∙ ap (drop a) (sym (take-add a (e - a) s) ∙ ap (λ n. take n s) n)

pub slice_join : (a b e : ℕ) (s : List ℕ) → a ≤ b → b ≤ e → e ≤ length s → slice a b s ++ slice b e s ≡ slice a e s
slice_join a b e s h k l =
    let n : e - a ≡ b - a + (e - b) = omega arith in
    let m : a + (b - a) ≡ b = omega arith in
    rw (← slice_is a b s h (omega arith), ← slice_is b e s k l, ← slice_is a e s (omega arith) l)
    (sym (ap (λ n. take n (drop a s)) n ∙ take-add (b - a) (e - b) (drop a s)
    ∙ ap (λ l. take (b - a) (drop a s) ++ take (e - b) l) (drop-drop (b - a) a s ∙ ap (λ n. drop n s) m)))
