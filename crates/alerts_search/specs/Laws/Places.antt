-- Law. The places of alerts, noted one after the other.
use Rattle.std.specs.Prelude.{◌≡◌, refl, List, [], ◌∷◌, ◌++◌, Bool, true, false, ℕ, zero, suc, ◌+◌, ◌-◌, ◌≤◌, ◌<◌, eqb, ltb, length, get_or, set}
use Rattle.std.proofs.Common.{sym, ap, ◌∙◌, arith, length-set, length-append, get_or-set_same, get_or-set_other, eqb-true, ltb-true, ltb-false}
use Rattle.std.proofs.lemmas.Bool.{eqb-false}
use Rattle.basics.specs.Lists.{All}
use Rattle.formats_read.specs.Promises.Here.{Here}
use Rattle.formats_read.specs.Promises.Reads.{ReadsNumber}
use Rattle.formats_read.specs.Laws.Walk.{Walk, begin, onward, ended, of_list}
use Rattle.formats_skip.specs.Promises.Passes.{Passes}
use Rattle.alerts.specs.Alert.{alert, Alert}
use Rattle.alerts.specs.Index.{numbered}
use Rattle.alerts_search.specs.Promises.Places.{Kept, Stands, Noted}

module _ (l : List ℕ) (i p : ℕ) where
  pub keep_out : length l ≤ i → Kept l l i p
  keep_out h = record { kept = refl; is = λ x y. absurd (omega arith) }

  pub keep_far : 4294967295 < p → Kept l l i p
  keep_far h = record { kept = refl; is = λ x y. absurd (omega arith) }

  pub keep_here : Kept l (set l i p) i p
  keep_here = record { kept = length-set l i p; is = λ x y. refl }

-- one alert more
numbered_before : (us : List Alert) (v : Alert) (j : ℕ) → j < length us → numbered (us ++ (v ∷ [])) j ≡ numbered us j
numbered_before [] v j h = absurd (omega arith)
numbered_before (u ∷ us) v zero h = refl
numbered_before (u ∷ us) v (suc j) h = numbered_before us v j (omega arith)

numbered_last : (us : List Alert) (v : Alert) → numbered (us ++ (v ∷ [])) (length us) ≡ v ∷ []
numbered_last [] v = refl
numbered_last (u ∷ us) v = numbered_last us v

numbered_past : (us : List Alert) (v : Alert) (j : ℕ) → length us < j → numbered (us ++ (v ∷ [])) j ≡ []
numbered_past [] v zero h = absurd (omega arith)
numbered_past [] v (suc j) h = refl
numbered_past (u ∷ us) v zero h = absurd (omega arith)
numbered_past (u ∷ us) v (suc j) h = numbered_past us v j (omega arith)

-- the alerts behind stand at their places
pub record Placed (s : List ℕ) (room i : ℕ) (l : List ℕ) (us : List Alert) : Type 0 where
  pub length_is : length us ≡ i
  pub each : length us ≤ room → length s < 4294967296 → (j : ℕ) → All (Stands s (get_or l j 0)) (numbered us j)

one_more : (s : List ℕ) (l : List ℕ) (p e : ℕ) (us : List Alert) (v : Alert) → length us < length l → Here alert s p e v
    → ((j : ℕ) → All (Stands s (get_or l j 0)) (numbered us j))
    → (j : ℕ) → All (Stands s (get_or (set l (length us) p) j 0)) (numbered (us ++ (v ∷ [])) j)
one_more s l p e us v h H f j = go (eqb j (length us)) refl (ltb j (length us)) refl
  where
    go : (t : Bool) → eqb j (length us) ≡ t → (b : Bool) → ltb j (length us) ≡ b
        → All (Stands s (get_or (set l (length us) p) j 0)) (numbered (us ++ (v ∷ [])) j)
    go true x b y =
        let is : j ≡ length us = eqb-true j (length us) x in
        rw (is, numbered_last us v, get_or-set_same l (length us) p 0 h) ((e, H), tt)
    go false x true y =
        rw (
          numbered_before us v j (ltb-true j (length us) y),
          get_or-set_other l (length us) j p 0 (eqb-false j (length us) x),
        )
        (f j)
    go false x false y =
        let past : length us < j = above j (length us) (eqb-false j (length us) x) (ltb-false j (length us) y) in
        rw (numbered_past us v j past) tt
      where
        above : (j n : ℕ) → (j ≡ n → ⊥) → n ≤ j → n < j
        above j n d h = omega arith

pub record Noting (s : List ℕ) (old : List ℕ) (a n p left i : ℕ) (l : List ℕ) : Type 0 where
  pub walk : Walk alert s a n p left (Placed s (length old) i l)
  pub count : i + left ≡ n
  pub kept : length l ≡ length old

module _ {s old : List ℕ} {a n : ℕ} where
  pub noting_start : Noting s old a n a n 0 old
  noting_start = record {
    walk = begin (record { length_is = refl; each = λ x y j. tt });
    count = omega arith;
    kept = refl;
  }

  module _ {p left i : ℕ} {l : List ℕ} (N : Noting s old a n p left i l) where
    pub noting_on : {e : ℕ} {m : List ℕ} → 0 < left → Kept l m i p → Passes alert s p e
        → Noting s old a n e (left - 1) (i + 1) m
    noting_on {e} {m} z K P = record {
      walk = onward N.walk e z (λ v q h. P.to h) (λ us v B h. record {
        length_is = length-append us (v ∷ []) ∙ ap (λ j. j + 1) B.length_is;
        each = λ x y.
            let i' : i ≡ length us = sym B.length_is in
            let x' : length us < length l = omega (arith, length-append us (v ∷ []), N.kept) in
            let is : m ≡ set l (length us) p =
            K.is (omega arith) (omega (arith, h.forward, h.within)) ∙ ap (λ k. set l k p) i' in
            rw is (one_more s l p e us v x' h (B.each (omega arith) y));
      });
      count = omega (arith, N.count);
      kept = K.kept ∙ N.kept;
    }

    pub noting_end : {at : ℕ} → ReadsNumber s at n a → left ≤ 0 → Noted s at i old l
    noting_end R z = record {
      kept = N.kept;
      count = λ h. sym (of_list h R (ended N.walk z)).length_is;
      each = λ h. (of_list h R (ended N.walk z)).each;
    }
