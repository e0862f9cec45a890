-- Law. A scan back for the last '@' of a key.
use Rattle.std.specs.Prelude.{◌≡◌, refl, List, [], ◌∷◌, ◌++◌, ℕ, suc, ◌+◌, ◌-◌, ◌≤◌, ◌<◌, length, take, drop, get_or, Some, None}
use Rattle.std.proofs.Common.{sym, ap, ◌∙◌, arith, take-append-drop, drop-cons, eq-eqb, ne_eqb}
use Rattle.std.proofs.Math.Option.{none, some}
use Rattle.std.proofs.Math.Seq.{drop-length}
use Rattle.alerts.specs.Text.{rsplit_once}
use Rattle.overlay_ids.specs.Promises.Ids.{LastAt}

-- from i on there is no '@'
pub record Free (key : List ℕ) (i : ℕ) : Type 0 where
  pub is : rsplit_once 64 (drop i key) ≡ none
  pub within : i ≤ length key

-- in front of a text without '@'
split_other : (b : ℕ) (s : List ℕ) → rsplit_once 64 s ≡ none → (b ≡ 64 → ⊥) → rsplit_once 64 (b ∷ s) ≡ none
split_other b s e n = rw (e, ne_eqb b 64 n) refl

split_here : (x : List ℕ) (b : ℕ) (s : List ℕ) → rsplit_once 64 s ≡ none → b ≡ 64
    → rsplit_once 64 (x ++ b ∷ s) ≡ some (x, s)
split_here [] b s e n = rw (e, eq-eqb b 64 n) refl
split_here (a ∷ x) b s e n = rw (split_here x b s e n) refl

pub free_start : {key : List ℕ} → Free key (length key)
free_start {key} = record { is = rw (drop-length key) refl; within = omega arith }

module _ {key : List ℕ} {i : ℕ} (F : Free key i) (z : 0 < i) where
  cut : drop (i - 1) key ≡ get_or key (i - 1) 0 ∷ drop i key
  cut =
      let e : suc (i - 1) ≡ i = omega arith in
      drop-cons key (i - 1) 0 (omega (arith, F.within)) ∙ ap (λ n. get_or key (i - 1) 0 ∷ drop n key) e

  pub free_next : (get_or key (i - 1) 0 ≡ 64 → ⊥) → Free key (i - 1)
  free_next n = record {
    is = rw cut (split_other (get_or key (i - 1) 0) (drop i key) F.is n);
    within = omega (arith, F.within);
  }

  whole : take (i - 1) key ++ get_or key (i - 1) 0 ∷ drop i key ≡ key
  whole = ap (λ l. take (i - 1) key ++ l) (sym cut) ∙ take-append-drop (i - 1) key

  split_is : get_or key (i - 1) 0 ≡ 64 → rsplit_once 64 key ≡ some (take (i - 1) key, drop (i - 1 + 1) key)
  split_is e =
      let n : i - 1 + 1 ≡ i = omega arith in
      rw n (ap (rsplit_once 64) (sym whole)
      ∙ split_here (take (i - 1) key) (get_or key (i - 1) 0) (drop i key) F.is e)

  pub free_found : get_or key (i - 1) 0 ≡ 64 → LastAt key (Some (i - 1))
  free_found e = record {
    found = λ k h. let w : i - 1 ≡ k = cc in rw w at (split_is e);
    lost = λ h. absurd (let w : ◌≡◌ {A = ℕ} 0 1 = cc in omega arith);
    within = λ k h. let w : i - 1 ≡ k = cc in omega (arith, F.within);
  }

pub free_whole : {key : List ℕ} {i : ℕ} → Free key i → i ≤ 0 → LastAt key None
free_whole {key} {i} F z = record {
  found = λ k h. absurd (let w : ◌≡◌ {A = ℕ} 0 1 = cc in omega arith);
  lost = λ h. let w : i ≡ 0 = omega arith in rw w at F.is;
  within = λ k h. absurd (let w : ◌≡◌ {A = ℕ} 0 1 = cc in omega arith);
}
