-- Law. Writings at a place, one after the other; what stood before them stays.
use Rattle.std.specs.Prelude.{ℕ, ◌+◌, ◌≤◌, ◌≡◌, refl, List, [], ◌++◌, length, take, drop}
use Rattle.std.proofs.Common.{sym, ap, ◌∙◌, append_assoc, append-nil, arith, length-append, length-drop, take-append-drop, length-take-le, take_at, drop_at, drop-drop}
use Rattle.slices.specs.Lists.{pasted}
use Rattle.decode.specs.Promises.Written.{Added}

pasted_length : (out : List ℕ) (at : ℕ) (x : List ℕ) → at + length x ≤ length out
    → length (pasted out at x) ≡ length out
pasted_length out at x h =
    omega (
      arith,
      length-append (take at out ++ x) (drop (at + length x) out),
      length-append (take at out) x,
      length-take-le at out (omega arith),
      length-drop (at + length x) out,
    )

pub none : (out : List ℕ) (at : ℕ) → at ≤ length out → Added out at [] out at
none out at h =
    let z : at + 0 ≡ at = omega arith in
    record { fits = omega arith; next = omega arith; bytes = rw (z, append-nil) (sym (take-append-drop at out)) }

-- one after the other
pub then : {out out' out'' : List ℕ} {at p r : ℕ} {x y : List ℕ} → Added out at x out' p → Added out' p y out'' r
    → Added out at (x ++ y) out'' r
then {out} {out'} {out''} {at} {p} {r} {x} {y} f g =
    let l : length out' ≡ length out = ap length f.bytes ∙ pasted_length out at x f.fits in
    let front : length (take at out ++ x) ≡ p =
    omega (arith, length-append (take at out) x, length-take-le at out (omega (arith, f.fits)), f.next) in
    let a : take p out' ≡ take at out ++ x =
    ap (take p) f.bytes ∙ take_at (take at out ++ x) (drop (at + length x) out) p front in
    let c : drop p out' ≡ drop (at + length x) out =
    ap (drop p) f.bytes ∙ drop_at (take at out ++ x) (drop (at + length x) out) p front in
    let n : at + length x + length y ≡ at + length (x ++ y) = omega (arith, length-append x y) in
    let b : drop (p + length y) out' ≡ drop (at + length (x ++ y)) out =
    sym (drop-drop (length y) p out') ∙ ap (drop (length y)) c ∙ drop-drop (length y) (at + length x) out
    ∙ ap (λ k. drop k out) n in
    record {
      fits = omega (arith, f.fits, g.fits, l, f.next, length-append x y);
      next = omega (arith, f.next, g.next, length-append x y);
      bytes = g.bytes ∙ (λ i. (a i ++ y) ++ b i)
          ∙ ap (λ z. z ++ drop (at + length (x ++ y)) out) (append_assoc (take at out) x y);
    }

-- what was written stands there, and what stood before it still does
module _ {out out' : List ℕ} {at r : ℕ} {x : List ℕ} (f : Added out at x out' r) where
  whole : out' ≡ take at out ++ (x ++ drop (at + length x) out)
  whole = f.bytes ∙ append_assoc (take at out) x (drop (at + length x) out)

  front : length (take at out) ≡ at
  front = length-take-le at out (omega (arith, f.fits))

  pub written_there : take (length x) (drop at out') ≡ x
  written_there =
      ap (λ o. take (length x) (drop at o)) whole
      ∙ ap (take (length x)) (drop_at (take at out) (x ++ drop (at + length x) out) at front)
      ∙ take_at x (drop (at + length x) out) (length x) refl

  pub written_before : take at out' ≡ take at out
  written_before = ap (take at) whole ∙ take_at (take at out) (x ++ drop (at + length x) out) at front

  pub written_whole : length out' ≡ length out
  written_whole = ap length f.bytes ∙ pasted_length out at x f.fits
