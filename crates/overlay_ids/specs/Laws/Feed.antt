-- Law. A scan for the first ':' of an id.
use Rattle.std.specs.Prelude.{◌≡◌, refl, List, [], ◌∷◌, ◌++◌, ℕ, suc, ◌+◌, ◌≤◌, ◌<◌, length, take, drop, get_or}
use Rattle.std.proofs.Common.{sym, ap, ◌∙◌, append_assoc, append-nil, add-one, arith, take-suc, drop-cons, eq-eqb, ne_eqb}
use Rattle.std.proofs.Math.Seq.{drop-length}
use Rattle.overlay.specs.Lookup.{feed_of}
use Rattle.overlay_ids.specs.Promises.Ids.{FeedEnd}

-- up to i there is no ':'
pub record Scanned (id : List ℕ) (i : ℕ) : Type 0 where
  pub is : take i id ++ feed_of (drop i id) ≡ feed_of id
  pub within : i ≤ length id

feed_colon : (b : ℕ) (s : List ℕ) → b ≡ 58 → feed_of (b ∷ s) ≡ []
unfolding feed_of
feed_colon b s e = rw (eq-eqb b 58 e) refl

feed_other : (b : ℕ) (s : List ℕ) → (b ≡ 58 → ⊥) → feed_of (b ∷ s) ≡ b ∷ feed_of s
unfolding feed_of
feed_other b s e = rw (ne_eqb b 58 e) refl

feed_nil : feed_of [] ≡ []
unfolding feed_of
feed_nil = refl

drop_all : (s : List ℕ) (i : ℕ) → i ≡ length s → drop i s ≡ []
drop_all s i e = rw e (drop-length s)

pub feed_start : {id : List ℕ} → Scanned id 0
feed_start = record { is = refl; within = omega arith }

module _ {id : List ℕ} {i : ℕ} (S : Scanned id i) where
  pub feed_next : i < length id → (get_or id i 0 ≡ 58 → ⊥) → Scanned id (i + 1)
  feed_next l e = record {
    is = rw (add-one i, take-suc id i 0 l, append_assoc)
        (ap (λ r. take i id ++ r)
        (sym (feed_other (get_or id i 0) (drop (suc i) id) e) ∙ ap feed_of (sym (drop-cons id i 0 l)))
        ∙ S.is);
    within = omega arith;
  }

  pub feed_found : i < length id → get_or id i 0 ≡ 58 → FeedEnd id i
  feed_found l e = record {
    is = sym (append-nil (take i id))
        ∙ ap (λ r. take i id ++ r)
        (sym (feed_colon (get_or id i 0) (drop (suc i) id) e) ∙ ap feed_of (sym (drop-cons id i 0 l)))
        ∙ S.is;
    within = S.within;
  }

  pub feed_all : length id ≤ i → FeedEnd id i
  feed_all l = let e : i ≡ length id = omega (arith, S.within) in
      record {
        is = sym (append-nil (take i id))
            ∙ ap (λ r. take i id ++ r) (sym feed_nil ∙ ap feed_of (sym (drop_all id i e)))
            ∙ S.is;
        within = S.within;
      }

  -- the same, said of the whole id
  pub feed_whole : length id ≤ i → FeedEnd id (length id)
  feed_whole l =
      let e : i ≡ length id = omega (arith, S.within) in
      let F : FeedEnd id i = feed_all l in
      rw e at F
