-- Promise. A value of a format that stands at a place: its bytes, its parts, and what the interpreter answers there.
use Rattle.std.specs.Prelude.{◌≡◌, List, ◌++◌, ℕ, ◌+◌, ◌-◌, ◌≤◌, length, drop}
use Rattle.std.proofs.Common.{sym, ap, ◌∙◌, arith, length-append, length-drop}
use Rattle.std.proofs.Math.Option.{some}
use Rattle.std.proofs.Math.Seq.{slice, take-append_seam}
use Rattle.formats.specs.Format.{Format, Value, read, write, Fits}
use Rattle.formats.specs.Laws.Format.{law}
use Rattle.formats_write.specs.Laws.Slices.{slice_is}
use Rattle.formats_read.specs.Promises.Fields.{part, Has, tail, with}

-- the bytes of s from p up to q are those that are written for v
pub record Here (f : Format) (s : List ℕ) (p q : ℕ) (v : Value f) : Type 0 where
  pub written : slice p q s ≡ write f v
  pub fits : Fits f v
  pub forward : p ≤ q
  pub within : q ≤ length s

-- a value that is read at p stands there
pub here : (f : Format) (s : List ℕ) (p : ℕ) (v : Value f) (t : List ℕ) → p ≤ length s
    → read f (drop p s) ≡ some (v, t) → Here f s p (length s - length t) v
here f s p v t h e =
    let b = (law f).back (drop p s) v t e in
    let n : length s - p ≡ length (write f v) + length t =
    sym (length-drop p s) ∙ ap length b.0 ∙ length-append (write f v) t in
    let k : length s - length t - p ≡ length (write f v) = omega arith in
    record {
      written = sym (slice_is p (length s - length t) s (omega arith) (omega arith))
          ∙ rw (k, b.0) (take-append_seam (write f v) t);
      fits = b.1;
      forward = omega arith;
      within = omega arith;
    }

-- field k of a record that stands from p to q is at m
pub record Field (k : ℕ) (f : Format) (i : Has k f) (s : List ℕ) (p q : ℕ) (v : Value f) (m : ℕ) : Type 0 where
  pub here : Here (part k f) s m q (tail k f i v)
  pub forward : p ≤ m
  pub front : (u : Value (part k f)) → slice p m s ++ write (part k f) u ≡ write f (with k f i v u)
