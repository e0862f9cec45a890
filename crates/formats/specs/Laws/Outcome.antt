-- Law. A reader's answer as a place: what is left is a suffix of what was read.
use Rattle.std.specs.Prelude.{◌≡◌, refl, List, ◌++◌, ℕ, ◌-◌, length, take, drop, Some, None}
use Rattle.std.proofs.Common.{sym, ap, ◌∙◌, append_assoc, arith, length-append, take-append-drop}
use Rattle.std.proofs.Math.Option.{Option, none, some}
use Rattle.std.proofs.Math.Seq.{drop-append_seam}
use Rattle.formats.specs.Readers.{Reader}
use Rattle.formats.specs.Laws.Law.{Law}
use Rattle.formats.specs.Promises.Outcome.{skipped}

-- what is left is the whole past a place
pub suffix : (p : ℕ) (s x rest : List ℕ) → drop p s ≡ x ++ rest → rest ≡ drop (length s - length rest) s
suffix p s x rest e =
    let whole : s ≡ (take p s ++ x) ++ rest =
    rw append_assoc (sym (take-append-drop p s) ∙ ap (λ l. take p s ++ l) e) in
    let n : length s - length rest ≡ length (take p s ++ x) =
    omega (arith, ap length whole, length-append (take p s ++ x) rest) in
    sym (ap (λ k. drop k s) n ∙ ap (drop (length (take p s ++ x))) whole ∙ drop-append_seam (take p s ++ x) rest)

-- an outcome taken apart
un_at : {p q : ℕ} → Some p ≡ Some q → p ≡ q
un_at e = cc

broken_at : {C : Type 0} {p : ℕ} → None ≡ Some p → C
broken_at e = absurd (let z : ◌≡◌ {A = ℕ} 0 1 = cc in omega arith)

at_broken : {C : Type 0} {p : ℕ} → Some p ≡ None → C
at_broken e = absurd (let z : ◌≡◌ {A = ℕ} 0 1 = cc in omega arith)

pub broken : {A : Type 0} (s : List ℕ) (o : Option (A × List ℕ)) → skipped s o ≡ None → o ≡ none
broken s none e = refl
broken s (some p) e = at_broken e

-- a reader whose outcome is a place: some value was read, and what is left is the whole past that place
module _ {A : Type 0} {w : A → List ℕ} {r : Reader A} {ok : A → Type 0} (l : Law w r ok) (s : List ℕ) (p : ℕ) where
  at_go : (o : Option (A × List ℕ)) → r (drop p s) ≡ o → (q : ℕ) → skipped s o ≡ Some q
      → (a : A) × (r (drop p s) ≡ some (a, drop q s))
  at_go none e q h = broken_at h
  at_go (some x) e q h = (
    x.0,
    e ∙ ap {B = Option (A × List ℕ)} (λ t. some (
      x.0,
      t,
    )) (suffix p s (w x.0) x.1 (l.back (drop p s) x.0 x.1 e).0 ∙ ap (λ n. drop n s) (un_at h)),
  )

  pub at_place : (q : ℕ) → skipped s (r (drop p s)) ≡ Some q → (a : A) × (r (drop p s) ≡ some (a, drop q s))
  at_place q h = at_go (r (drop p s)) refl q h
