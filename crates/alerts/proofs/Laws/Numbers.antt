-- Law. The numbers of a leg's candidates: the index gives none of them twice and none that is no alert's, and the
-- alerts that they number are those that the search by ids takes.
use Rattle.std.specs.Prelude.{◌≡◌, refl, List, [], ◌∷◌, Bool, true, false, cond, not, ◌&&◌, ◌||◌, ℕ, suc, ◌+◌, ◌≤◌, ◌<◌, eqb, length}
use Rattle.std.proofs.Common.{sym, ap, ◌∙◌, arith, eqb-true, eq-eqb}
use Rattle.basics.specs.Lists.{All, any, member}
use Rattle.alerts.specs.Alert.{Alert}
use Rattle.alerts.specs.Index.{distinct, lookups, rebuild_alert_index, alert_candidates_for_leg}
use Rattle.alerts.specs.Index.{candidate, numbers_where, search, numbered, candidate_alerts}
use Rattle.basics.specs.Laws.Lists.{any_join}
use Rattle.basics.specs.Laws.Booleans.{false_true, or_false}
use Rattle.alerts.proofs.Laws.Candidates.{member_distinct, search_is_index, any_candidates}

-- ---- none twice

abbrev pub once : List ℕ → Bool
once [] = true
once (i ∷ l) = not (member i l) && once l

distinct_once : (seen l : List ℕ) → once (distinct seen l) ≡ true
distinct_once seen [] = refl
distinct_once seen (i ∷ l) = go (member i seen) (distinct_once seen l) (distinct_once (i ∷ seen) l)
  where
    gone : member i (distinct (i ∷ seen) l) ≡ false
    gone = member_distinct i (i ∷ seen) l ∙ rw (eq-eqb i i refl) refl

    go : (t : Bool) → once (distinct seen l) ≡ true → once (distinct (i ∷ seen) l) ≡ true
        → once (cond t (distinct seen l) (i ∷ distinct (i ∷ seen) l)) ≡ true
    go true h h' = h
    go false h h' = rw (gone, h') refl

-- ---- each is an alert's

numbers_within : (p : Alert → Bool) (i : ℕ) (l : List Alert) (j : ℕ) → member j (numbers_where p i l) ≡ true
    → (i ≤ j) × (j < i + length l)
numbers_within p i [] j h = false_true h
numbers_within p i (a ∷ l) j h = go (p a) h (numbers_within p (suc i) l j)
  where
    go : (t : Bool) → member j (cond t (i ∷ numbers_where p (suc i) l) (numbers_where p (suc i) l)) ≡ true
        → (member j (numbers_where p (suc i) l) ≡ true → (suc i ≤ j) × (j < suc i + length l))
        → (i ≤ j) × (j < i + length (a ∷ l))
    go false h ih = let b = ih h in (omega (arith, b.0), omega (arith, b.1))
    go true h ih = first (eqb j i) refl h
      where
        first : (t : Bool) → eqb j i ≡ t → t || member j (numbers_where p (suc i) l) ≡ true
            → (i ≤ j) × (j < i + length (a ∷ l))
        first true e k = let q = eqb-true j i e in (omega (arith, q), omega (arith, q))
        first false e k = let b = ih k in (omega (arith, b.0), omega (arith, b.1))

each_member : (P : ℕ → Type 0) (l : List ℕ) → ((j : ℕ) → member j l ≡ true → P j) → All P l
each_member P [] h = tt
each_member P (i ∷ l) h = (h i (rw (eq-eqb i i refl) refl), each_member P l (λ j m. h j (later (eqb j i) m)))
  where
    later : {x : Bool} (t : Bool) → x ≡ true → t || x ≡ true
    later true m = refl
    later false m = m

numbers_once : (p : Alert → Bool) (i : ℕ) (l : List Alert) → once (numbers_where p i l) ≡ true
numbers_once p i [] = refl
numbers_once p i (a ∷ l) = go (p a) (numbers_once p (suc i) l)
  where
    ahead : (t : Bool) → member i (numbers_where p (suc i) l) ≡ t → t ≡ false
    ahead true e = absurd (omega (arith, (numbers_within p (suc i) l i e).0))
    ahead false e = refl

    go : (t : Bool) → once (numbers_where p (suc i) l) ≡ true
        → once (cond t (i ∷ numbers_where p (suc i) l) (numbers_where p (suc i) l)) ≡ true
    go true h = rw (ahead (member i (numbers_where p (suc i) l)) refl, h) refl
    go false h = h

module _ (l : List Alert) (trip route from to : List ℕ) where
  -- NO NUMBER TWICE
  pub search_once : once (search l trip route from to) ≡ true
  search_once = numbers_once (candidate trip route from to) 0 l

  pub candidates_once : once (alert_candidates_for_leg l trip route from to) ≡ true
  candidates_once = distinct_once [] (lookups (rebuild_alert_index l) trip route from to)

  -- EACH AN ALERT'S
  pub candidates_below : All (λ i. i < length l) (alert_candidates_for_leg l trip route from to)
  candidates_below =
      each_member (λ i. i < length l) (alert_candidates_for_leg l trip route from to) (λ j m.
      let m' : member j (search l trip route from to) ≡ true = sym (search_is_index l trip route from to j) ∙ m in
      omega (arith, (numbers_within (candidate trip route from to) 0 l j m').1))

-- ---- the alerts that are numbered

-- numbers from one more on
any_later : (f : ℕ → Bool) (p : Alert → Bool) (i : ℕ) (l : List Alert)
    → any f (numbers_where p (suc i) l) ≡ any (λ j. f (suc j)) (numbers_where p i l)
any_later f p i [] = refl
any_later f p i (a ∷ l) = go (p a) (any_later f p (suc i) l)
  where
    go : (t : Bool) → any f (numbers_where p (suc (suc i)) l) ≡ any (λ j. f (suc j)) (numbers_where p (suc i) l)
        → any f (cond t (suc i ∷ numbers_where p (suc (suc i)) l) (numbers_where p (suc (suc i)) l))
        ≡ any (λ j. f (suc j)) (cond t (i ∷ numbers_where p (suc i) l) (numbers_where p (suc i) l))
    go true e = ap (λ x. f (suc i) || x) e
    go false e = e

any_numbered : (q p : Alert → Bool) (l : List Alert)
    → any (λ i. any q (numbered l i)) (numbers_where p 0 l) ≡ any (λ a. p a && q a) l
any_numbered q p [] = refl
any_numbered q p (a ∷ l) = go (p a) (any_later (λ i. any q (numbered (a ∷ l) i)) p 0 l ∙ any_numbered q p l)
  where
    go : (t : Bool) → any (λ i. any q (numbered (a ∷ l) i)) (numbers_where p 1 l) ≡ any (λ a. p a && q a) l
        → any (λ i. any q (numbered (a ∷ l) i)) (cond t (0 ∷ numbers_where p 1 l) (numbers_where p 1 l))
        ≡ t && q a || any (λ a. p a && q a) l
    go true e = rw (or_false (q a), e) refl
    go false e = e

module _ (l : List Alert) (trip route from to : List ℕ) where
  -- WHATEVER IS ASKED OF SOME CANDIDATE is asked of some alert that the search takes
  pub any_candidate : (q : Alert → Bool)
      → any q (candidate_alerts l trip route from to) ≡ any (λ a. candidate trip route from to a && q a) l
  any_candidate q =
      any_join q (numbered l) (alert_candidates_for_leg l trip route from to)
      ∙ any_candidates l trip route from to (λ i. any q (numbered l i))
      ∙ any_numbered q (candidate trip route from to) l
