-- Law. What a writer from the start of an output makes of a call: accepted with the whole, or the no of the question
-- that asks for room.
use Rattle.std.specs.Prelude.{◌≡◌, refl, Bool, true, false, List, ◌++◌, ℕ, ◌+◌, ◌-◌, ◌≤◌, ◌<◌, leb, length, take, drop, replicate, Option, Some, None}
use Rattle.std.proofs.Common.{sym, ap, ◌∙◌, append-nil, arith, length-drop, take_at, take_all, drop-drop, length-take-le, leb-true, leb-false}
use Rattle.std.proofs.Math.Seq.{drop-length}
use Rattle.formats_write.specs.Promises.Adds.{Wrote}
use Rattle.overlay.specs.Image.{filled}
use Rattle.panel.specs.Outcome.{accepted, need, number_of}
use Rattle.panel_output.specs.Promises.Ending.{outcome_of, ending_of, put_ending, Cleared, Finished}
use Rattle.panel_output.specs.declared.Ending.{Ending}
use Rattle.panel_output.specs.declared.Ending.TheVariants.{Refused, Written}

pub written_as : (k : ℕ) {l m : List ℕ} {q : Option ℕ} {x : List ℕ} → Wrote l m q x
    → outcome_of m (ending_of k q) ≡ need (leb (length x) (length l)) k (accepted x)
written_as k {l} {m} {q} {x} w = go (leb (length x) (length l)) refl
  where
    go : (t : Bool) → leb (length x) (length l) ≡ t → outcome_of m (ending_of k q) ≡ need t k (accepted x)
    go true t =
        let h = leb-true (length x) (length l) t in
        let e : take (length x) m ≡ x =
        ap (take (length x)) (w.holds h) ∙ take_at x (drop (length x) l) (length x) refl in
        ap (λ q. outcome_of m (ending_of k q)) (w.next h) ∙ ap accepted e
    go false t = ap (λ q. outcome_of m (ending_of k q)) (w.full (leb-false (length x) (length l) t))

pub written_outcome : {l m : List ℕ} {q : Option ℕ} {x : List ℕ} → Wrote l m q x
    → outcome_of m (put_ending q) ≡ need (leb (length x) (length l)) 7 (accepted x)
written_outcome = written_as 7

-- zeros behind what stands up to p: a part of its own, cleared
pub cleared : (l b : List ℕ) (p : ℕ) → p < length l → b ≡ replicate (length (take (length l - p) (drop p l))) 0
    → Cleared l p (take p l ++ (b ++ drop (length l - p) (drop p l)))
unfolding filled
cleared l b p h e =
    let n : length (take (length l - p) (drop p l)) ≡ length l - length (take p l) =
    length-take-le (length l - p) (drop p l) (omega (arith, length-drop p l))
    ∙ omega (arith, length-take-le p l (omega arith)) in
    let z : p + (length l - p) ≡ length l = omega arith in
    record { is = rw (drop-drop (length l - p) p l, z, drop-length l, append-nil, e, n) refl }

-- nothing behind it
all_taken : (l x : List ℕ) → x ≡ l → l ≡ x ++ replicate (length l - length x) 0
all_taken l x e =
    let z : length l - length x ≡ 0 = omega (arith, ap length e) in
    rw (z, append-nil, e) refl

pub whole : {l : List ℕ} {p : ℕ} → length l ≤ p → Cleared l p l
unfolding filled
whole {l} {p} h = record { is = all_taken l (take p l) (take_all p l h) }

pub refused_so : {l m : List ℕ} {e : Ending} {n : ℕ} → e ≡ Refused n → m ≡ replicate (length l) 0 → Finished l e m n
refused_so {l} i z = record { number = ap (λ e. number_of (outcome_of l e)) (sym i); bytes = rw i z }

pub written_so : {l m : List ℕ} {e : Ending} {p : ℕ} → e ≡ Written p → Cleared l p m → Finished l e m 0
written_so {l} i c = record { number = ap (λ e. number_of (outcome_of l e)) (sym i); bytes = rw i c.is }

-- a writer's last place
pub put_at : (k : ℕ) {w : Option ℕ} {p : ℕ} → w ≡ Some p → Written p ≡ ending_of k w
put_at k e = ap (ending_of k) (sym e)

pub put_full : (k : ℕ) {w : Option ℕ} → w ≡ None → Refused k ≡ ending_of k w
put_full k e = ap (ending_of k) (sym e)
