-- Law. The table of product codes, row by row.
use Rattle.std.specs.Prelude.{◌≡◌, refl, List, ◌++◌, Bool, true, false, cond, ℕ, zero, suc, ◌+◌, ◌*◌, ◌-◌, ◌≤◌, ◌<◌, length, take, drop, Some, None}
use Rattle.std.proofs.Common.{sym, ap, ◌∙◌, arith, length-append, length-drop, length-take, drop-drop}
use Rattle.std.proofs.Math.Option.{some}
use Rattle.std.proofs.Math.Seq.{take-append_seam}
use Rattle.slices.specs.Lists.{pasted}
use Rattle.alerts.specs.Text.{upper, same_ignoring_case, trim_end}
use Rattle.alerts.specs.Applies.{name_of}
use Rattle.alerts_ids.specs.Promises.Products.{name_in, rows, Wrote, Named}
use Rattle.alerts_ids.specs.Laws.Ends.{end_shorter}

pub wrote : (name old new : List ℕ) → length name ≤ length old → new ≡ pasted old 0 name
    → Wrote name (length name) old new
wrote name old new h e =
    let z : 0 + length name ≡ length name = omega arith in
    let f : new ≡ name ++ drop (length name) old = e ∙ ap (λ k. name ++ drop k old) z in
    let k : length new ≡ length old =
    ap length f ∙ length-append name (drop (length name) old) ∙ omega (arith, length-drop (length name) old) in
    record {
      kept = k;
      within = omega (arith, h, k);
      is = ap (take (length name)) f ∙ take-append_seam name (drop (length name) old);
    }

-- the name of a row
three : (at : ℕ) → at + 9 - (at + 6) ≡ 3
three at = omega arith

module _ (t r : List ℕ) (at : ℕ) (e : r ≡ trim_end (take (at + 9 - (at + 6)) (drop (at + 6) t))) where
  pub name_room : (out : List ℕ) → 3 ≤ length out → length r ≤ length out
  name_room out h =
      let part = take (at + 9 - (at + 6)) (drop (at + 6) t) in
      omega (arith, ap length e, end_shorter part, length-take (at + 9 - (at + 6)) (drop (at + 6) t))

  pub row_wrote : {n : ℕ} {old new : List ℕ} → Wrote r n old new → Wrote (name_in t at) n old new
  row_wrote W = record {
    kept = W.kept;
    within = W.within;
    is = W.is ∙ e ∙ ap (λ k. trim_end (take k (drop (at + 6) t))) (three at);
  }

-- ---- the rows from a place on

pub record Seeking (code t : List ℕ) (n at left : ℕ) (old new : List ℕ) : Type 0 where
  pub kept : length new ≡ length old
  pub within : at + 9 * left ≤ length t
  pub whole : name_of (upper code) (rows n t) ≡ name_of (upper code) (rows left (drop at t))

pub seeking_start : (code t old : List ℕ) (n : ℕ) → 9 * n ≤ length t → Seeking code t n 0 n old old
seeking_start code t old n h = record { kept = refl; within = omega arith; whole = refl }

one_row : (code t : List ℕ) (at left : ℕ) → 0 < left
    → name_of (upper code) (rows left (drop at t))
    ≡ cond (same_ignoring_case code (take 6 (drop at t))) (some (name_in t at))
    (name_of (upper code) (rows (left - 1) (drop (at + 9) t)))
one_row code t at zero h = absurd (omega arith)
one_row code t at (suc left) h =
    let n : suc left - 1 ≡ left = omega arith in
    rw (n, ← drop-drop 9 at t, ← drop-drop 6 at t) refl

module _ {code t : List ℕ} {n at left : ℕ} {old new : List ℕ} (S : Seeking code t n at left old new) where
  six : take (at + 6 - at) (drop at t) ≡ take 6 (drop at t)
  six = let k : at + 6 - at ≡ 6 = omega arith in ap (λ j. take j (drop at t)) k

  told : {b : Bool} → 0 < left → b ≡ same_ignoring_case code (take (at + 6 - at) (drop at t))
      → name_of (upper code) (rows n t)
      ≡ cond b (some (name_in t at)) (name_of (upper code) (rows (left - 1) (drop (at + 9) t)))
  told {b} z e =
      S.whole ∙ one_row code t at left z
      ∙ ap (λ x. cond x (some (name_in t at)) (name_of (upper code) (rows (left - 1) (drop (at + 9) t))))
      (sym (e ∙ ap (same_ignoring_case code) six))

  pub row_found : {b : Bool} {k : ℕ} {out : List ℕ} → 0 < left
      → b ≡ same_ignoring_case code (take (at + 6 - at) (drop at t)) → b ≡ true → Wrote (name_in t at) k new out
      → Named (name_of (upper code) (rows n t)) (Some k) old out
  row_found z e f W = record {
    kept = W.kept ∙ S.kept;
    within = W.within;
    is = told z e ∙ rw f (ap some (sym W.is));
  }

  pub seeking_on : {b : Bool} → 0 < left → b ≡ same_ignoring_case code (take (at + 6 - at) (drop at t)) → b ≡ false
      → Seeking code t n (at + 9) (left - 1) old new
  seeking_on z e f = record { kept = S.kept; within = omega (arith, S.within); whole = told z e ∙ rw f refl }

  pub none_found : left ≤ 0 → Named (name_of (upper code) (rows n t)) None old new
  none_found z =
      let k : left ≡ 0 = omega arith in
      record { kept = S.kept; within = omega arith; is = S.whole ∙ rw k refl }
