-- Law. `feed:id` compared by its parts.
use Rattle.std.specs.Prelude.{◌≡◌, refl, Bool, true, false, ◌&&◌, List, [], ◌∷◌, ◌++◌, ℕ, suc, ◌+◌, ◌-◌, ◌≤◌, ◌<◌, ltb, eqb, length, take, drop, get_or}
use Rattle.std.proofs.Common.{sym, ap, ◌∙◌, add-one, arith, length-append, length-drop, drop-cons, take_all, eq-eqb, ne_eqb, ltb-true, ltb-false}
use Rattle.basics.specs.Texts.{same}
use Rattle.basics.specs.Laws.Booleans.{or_false, and_no, and_yes}
use Rattle.basics.specs.Laws.Texts.{same_true}
use Rattle.alerts.specs.Text.{ends}
use Rattle.overlay_ids.specs.Promises.Ids.{IsJoined, EndsColon, EndsJoined}

-- texts of two lengths
pub different : (x y : List ℕ) → (length x ≡ length y → ⊥) → same x y ≡ false
different x y n = go (same x y) refl
  where
    go : (t : Bool) → same x y ≡ t → same x y ≡ false
    go true e = absurd (n (ap length (same_true x y e)))
    go false e = e

and_assoc : (x y z : Bool) → x && (y && z) ≡ (x && y) && z
and_assoc true y z = refl
and_assoc false y z = refl

same_cut : (f y k : List ℕ) → length f ≤ length k
    → same (f ++ y) k ≡ same f (take (length f) k) && same y (drop (length f) k)
same_cut [] y k h = refl
same_cut (a ∷ f) y [] h = absurd (omega arith)
same_cut (a ∷ f) y (b ∷ k) h =
    ap (λ t. eqb a b && t) (same_cut f y k (omega arith))
    ∙ and_assoc (eqb a b) (same f (take (length f) k)) (same y (drop (length f) k))

-- the code's part of a slice from p on
abbrev pub part : List ℕ → ℕ → List ℕ
part s p = take (length s - p) (drop p s)

part_is : (s : List ℕ) (p : ℕ) → part s p ≡ drop p s
part_is s p = take_all (length s - p) (drop p s) (omega (arith, length-drop p s))

-- one text after ':' against another
headed_no : (b : ℕ) (r s : List ℕ) → (b ≡ 58 → ⊥) → same (58 ∷ r) (b ∷ s) ≡ false
headed_no b r s n = rw (ne_eqb 58 b (λ e. n (sym e))) refl

headed_yes : (b : ℕ) (r s : List ℕ) → b ≡ 58 → same (58 ∷ r) (b ∷ s) ≡ same r s
headed_yes b r s e = rw (eq-eqb 58 b (sym e)) refl

size : (f r : List ℕ) → length (f ++ 58 ∷ r) ≡ length f + suc (length r)
size f r = length-append f (58 ∷ r)

parted : (f r k : List ℕ) → length f < length k
    → same (f ++ 58 ∷ r) k
    ≡ same f (take (length f) k) && same (58 ∷ r) (get_or k (length f) 0 ∷ drop (length f + 1) k)
parted f r k l =
    same_cut f (58 ∷ r) k (omega arith)
    ∙ ap (λ s. same f (take (length f) k) && same (58 ∷ r) s)
    (drop-cons k (length f) 0 l ∙ ap (λ n. get_or k (length f) 0 ∷ drop n k) (sym (add-one (length f))))

module _ {f r k : List ℕ} where
  pub joined_short : length k ≤ length f → IsJoined f r k false
  joined_short h = record { is = sym (different (f ++ 58 ∷ r) k (λ e. omega (arith, size f r))) }

  module _ (l : length f < length k) where
    pub joined_size : (length k - length f - 1 ≡ length r → ⊥) → IsJoined f r k false
    joined_size n = record { is = sym (different (f ++ 58 ∷ r) k (λ e. n (omega (arith, size f r)))) }

    pub joined_other : (get_or k (length f) 0 ≡ 58 → ⊥) → IsJoined f r k false
    joined_other n = record {
      is = sym (parted f r k l
          ∙ ap (λ t. same f (take (length f) k) && t) (headed_no (get_or k (length f) 0) r (drop (length f + 1) k) n)
          ∙ and_no (same f (take (length f) k)));
    }

    pub joined_rest : {t : Bool} → get_or k (length f) 0 ≡ 58 → t ≡ same r (part k (length f + 1)) → t ≡ false
        → IsJoined f r k false
    joined_rest e h n = record {
      is = sym (parted f r k l
          ∙ ap (λ t. same f (take (length f) k) && t)
          (headed_yes (get_or k (length f) 0) r (drop (length f + 1) k) e
          ∙ ap (same r) (sym (part_is k (length f + 1))) ∙ sym h ∙ n)
          ∙ and_no (same f (take (length f) k)));
    }

    pub joined_whole : {t u : Bool} → get_or k (length f) 0 ≡ 58 → t ≡ same r (part k (length f + 1)) → t ≡ true
        → u ≡ same f (take (length f) k) → IsJoined f r k u
    joined_whole e h y w = record {
      is = w
          ∙ sym (parted f r k l
          ∙ ap (λ t. same f (take (length f) k) && t)
          (headed_yes (get_or k (length f) 0) r (drop (length f + 1) k) e
          ∙ ap (same r) (sym (part_is k (length f + 1))) ∙ sym h ∙ y)
          ∙ and_yes (same f (take (length f) k)));
    }

-- the end of a text
pub ends_long : (p s : List ℕ) → length s < length p → ends p s ≡ false
ends_long [] s h = absurd (omega arith)
ends_long (a ∷ p) [] h = refl
ends_long (a ∷ p) (b ∷ s) h =
    rw (different (a ∷ p) (b ∷ s) (λ e. omega arith), ends_long (a ∷ p) s (omega arith)) refl

ends_cut : (p s : List ℕ) → length p ≤ length s → ends p s ≡ same p (drop (length s - length p) s)
ends_cut [] [] h = refl
ends_cut (a ∷ p) [] h = absurd (omega arith)
ends_cut p (b ∷ s) h = go (ltb (length s) (length p)) refl (ends_cut p s)
  where
    go : (t : Bool) → ltb (length s) (length p) ≡ t
        → (length p ≤ length s → ends p s ≡ same p (drop (length s - length p) s))
        → ends p (b ∷ s) ≡ same p (drop (suc (length s) - length p) (b ∷ s))
    go true x ih =
        let l = ltb-true (length s) (length p) x in
        let n : suc (length s) - length p ≡ 0 = omega arith in
        rw (n, ends_long p s l) (or_false (same p (b ∷ s)))
    go false x ih =
        let l = ltb-false (length s) (length p) x in
        let n : suc (length s) - length p ≡ suc (length s - length p) = omega arith in
        rw (n, different p (b ∷ s) (λ e. omega arith)) (ih (omega arith))

-- a text that is long enough, from its place p on
behind : (x s : List ℕ) (p : ℕ) → 0 < p → p + length x ≡ length s
    → ends (58 ∷ x) s ≡ same (58 ∷ x) (get_or s (p - 1) 0 ∷ drop p s)
behind x s p z l =
    let e : length s - suc (length x) ≡ p - 1 = omega arith in
    let n : suc (p - 1) ≡ p = omega arith in
    let d : drop (p - 1) s ≡ get_or s (p - 1) 0 ∷ drop p s =
    drop-cons s (p - 1) 0 (omega arith) ∙ ap (λ n. get_or s (p - 1) 0 ∷ drop n s) n in
    ends_cut (58 ∷ x) s (omega arith) ∙ ap (λ k. same (58 ∷ x) (drop k s)) e ∙ ap (same (58 ∷ x)) d

module _ {x s : List ℕ} where
  pub colon_short : length s ≤ length x → EndsColon x s false
  colon_short h = record { is = sym (ends_long (58 ∷ x) s (omega arith)) }

  module _ (l : length x < length s) where
    pub colon_other : (get_or s (length s - length x - 1) 0 ≡ 58 → ⊥) → EndsColon x s false
    colon_other n = record {
      is = sym (behind x s (length s - length x) (omega arith) (omega arith)
          ∙ headed_no (get_or s (length s - length x - 1) 0) x (drop (length s - length x) s) n);
    }

    pub colon_same : {t : Bool} → get_or s (length s - length x - 1) 0 ≡ 58 → t ≡ same x (part s (length s - length x))
        → EndsColon x s t
    colon_same e h = record {
      is = h ∙ ap (same x) (part_is s (length s - length x))
          ∙ sym (behind x s (length s - length x) (omega arith) (omega arith)
          ∙ headed_yes (get_or s (length s - length x - 1) 0) x (drop (length s - length x) s) e);
    }

-- with `feed:rest` for x
module _ {f r s : List ℕ} where
  pub ends_short : length s ≤ length f → EndsJoined f r s false
  ends_short h = record { is = sym (ends_long (58 ∷ (f ++ 58 ∷ r)) s (omega (arith, size f r))) }

  pub ends_bare : length s - length f < 2 → EndsJoined f r s false
  ends_bare h = record { is = sym (ends_long (58 ∷ (f ++ 58 ∷ r)) s (omega (arith, size f r))) }

  pub ends_less : length s - length f - 2 < length r → EndsJoined f r s false
  ends_less h = record { is = sym (ends_long (58 ∷ (f ++ 58 ∷ r)) s (omega (arith, size f r))) }

  module _ (m : 2 ≤ length s - length f) (l : length r ≤ length s - length f - 2) where
    pub ends_other : (get_or s (length s - length f - 1 - length r - 1) 0 ≡ 58 → ⊥) → EndsJoined f r s false
    ends_other n = record {
      is = sym (behind (f ++ 58 ∷ r) s (length s - length f - 1 - length r) (omega arith) (omega (arith, size f r))
          ∙ headed_no (get_or s (length s - length f - 1 - length r - 1) 0) (f ++ 58 ∷ r)
          (drop (length s - length f - 1 - length r) s) n);
    }

    pub ends_same : {t : Bool} → get_or s (length s - length f - 1 - length r - 1) 0 ≡ 58
        → IsJoined f r (part s (length s - length f - 1 - length r)) t → EndsJoined f r s t
    ends_same e h = record {
      is = h.is ∙ ap (same (f ++ 58 ∷ r)) (part_is s (length s - length f - 1 - length r))
          ∙ sym (behind (f ++ 58 ∷ r) s (length s - length f - 1 - length r) (omega arith) (omega (arith, size f r))
          ∙ headed_yes (get_or s (length s - length f - 1 - length r - 1) 0) (f ++ 58 ∷ r)
          (drop (length s - length f - 1 - length r) s) e);
    }
