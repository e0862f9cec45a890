-- Law. `search_is_index`: the search by ids takes exactly the alerts that the index gives.
use Rattle.std.specs.Prelude.{◌≡◌, refl, List, [], ◌∷◌, ◌++◌, Bool, true, false, cond, not, ◌&&◌, ◌||◌, ℕ, suc, eqb}
use Rattle.std.proofs.Common.{sym, ap, ◌∙◌, eqb-true, eq-eqb}
use Rattle.basics.specs.Lists.{any, member, concat_map}
use Rattle.basics.specs.Texts.{same}
use Rattle.alerts.specs.Alert.{Alert, informed_trip_ids, informed_route_ids, informed_stop_ids}
use Rattle.alerts.specs.Index.{undated, trip_keys, id_keys, Map, push, numbers_at, push_all, indexed}
use Rattle.alerts.specs.Index.{rebuild_alert_index, leg_trips, leg_routes, leg_stops, distinct}
use Rattle.alerts.specs.Index.{alert_candidates_for_leg, meets, numbers_where, search}
use Rattle.basics.specs.Laws.Lists.{any_append, any_same, any_join, any_swap}
use Rattle.basics.specs.Laws.Texts.{same_true}
use Rattle.basics.specs.Laws.Booleans.{and_no, false_true, or_false, or_assoc, or_comm, both_ways}

-- a number is left once where it stood, unless it was seen
distinct_step : (j i : ℕ) (seen l : List ℕ) (t : Bool) → member i seen ≡ t
    → member j (distinct seen l) ≡ not (member j seen) && member j l
    → member j (distinct (i ∷ seen) l) ≡ not (member j (i ∷ seen)) && member j l
    → member j (cond t (distinct seen l) (i ∷ distinct (i ∷ seen) l)) ≡ not (member j seen) && member j (i ∷ l)
distinct_step j i seen l t e ih ih' = go (eqb j i) refl t e
  where
    go : (u : Bool) → eqb j i ≡ u → (t : Bool) → member i seen ≡ t
        → member j (cond t (distinct seen l) (i ∷ distinct (i ∷ seen) l)) ≡ not (member j seen) && member j (i ∷ l)
    go true eu true et = rw (ih, eu, ap (λ n. member n seen) (eqb-true j i eu) ∙ et) refl
    go true eu false et = rw (eu, ap (λ n. member n seen) (eqb-true j i eu) ∙ et) refl
    go false eu true et = rw (ih, eu) refl
    go false eu false et = rw (ih', eu) refl

pub member_distinct : (j : ℕ) (seen l : List ℕ) → member j (distinct seen l) ≡ not (member j seen) && member j l
member_distinct j seen [] = sym (and_no (not (member j seen)))
member_distinct j seen (i ∷ l) =
    distinct_step j i seen l (member i seen) refl (member_distinct j seen l) (member_distinct j (i ∷ seen) l)

-- what a push leaves at a key
get_push : (k k' : List ℕ) (i : ℕ) (m : Map)
    → numbers_at k (push k' i m) ≡ cond (same k k') (numbers_at k m ++ (i ∷ [])) (numbers_at k m)
get_push k k' i [] = refl
get_push k k' i (e ∷ m) = go (same k' e.0) refl (same k e.0) refl (get_push k k' i m)
  where
    other : same k' e.0 ≡ false → same k e.0 ≡ true → (t : Bool) → same k k' ≡ t → t ≡ false
    other g h true x =
        let h' : same k' e.0 ≡ true = ap (λ l. same l e.0) (sym (same_true k k' x)) ∙ h in
        false_true (sym g ∙ h')
    other g h false x = refl

    go : (t : Bool) → same k' e.0 ≡ t → (u : Bool) → same k e.0 ≡ u
        → numbers_at k (push k' i m) ≡ cond (same k k') (numbers_at k m ++ (i ∷ [])) (numbers_at k m)
        → numbers_at k (push k' i (e ∷ m)) ≡ cond (same k k') (numbers_at k (e ∷ m) ++ (i ∷ [])) (numbers_at k (e ∷ m))
    go true g true h ih = rw (g, h, ap (same k) (same_true k' e.0 g) ∙ h) refl
    go true g false h ih = rw (g, h, ap (same k) (same_true k' e.0 g) ∙ h) refl
    go false g true h ih = rw (g, h, other g h (same k k') refl) refl
    go false g false h ih = rw (g, h) ih

member_push : (j : ℕ) (k k' : List ℕ) (i : ℕ) (m : Map)
    → member j (numbers_at k (push k' i m)) ≡ member j (numbers_at k m) || same k k' && eqb j i
member_push j k k' i m = ap (member j) (get_push k k' i m) ∙ go (same k k')
  where
    go : (t : Bool) → member j (cond t (numbers_at k m ++ (i ∷ [])) (numbers_at k m)) ≡ member j (numbers_at k m) || t
        && eqb j i
    go true = any_append (eqb j) (numbers_at k m) (i ∷ [])
        ∙ ap (λ x. member j (numbers_at k m) || x) (or_false (eqb j i))
    go false = sym (or_false (member j (numbers_at k m)))

member_push_all : (j : ℕ) (k : List ℕ) (ks : List (List ℕ)) (i : ℕ) (m : Map)
    → member j (numbers_at k (push_all ks i m)) ≡ member j (numbers_at k m) || any (same k) ks && eqb j i
member_push_all j k [] i m = sym (or_false (member j (numbers_at k m)))
member_push_all j k (k' ∷ ks) i m =
    member_push_all j k ks i (push k' i m) ∙ ap (λ x. x || any (same k) ks && eqb j i) (member_push j k k' i m)
    ∙ go (same k k') (member j (numbers_at k m)) (any (same k) ks) (eqb j i)
  where
    go : (t x u e : Bool) → x || t && e || u && e ≡ x || (t || u) && e
    go t true u e = refl
    go true false u true = refl
    go false false u true = refl
    go true false true false = refl
    go true false false false = refl
    go false false u false = refl

-- the index gives at a key the numbers of the alerts that have it
member_indexed : (j : ℕ) (k : List ℕ) (keys : Alert → List (List ℕ)) (i : ℕ) (l : List Alert) (m : Map)
    → member j (numbers_at k (indexed keys i l m)) ≡ member j (numbers_at k m)
    || member j (numbers_where (λ a. any (same k) (keys a)) i l)
member_indexed j k keys i [] m = sym (or_false (member j (numbers_at k m)))
member_indexed j k keys i (a ∷ l) m =
    member_indexed j k keys (suc i) l (push_all (keys a) i m)
    ∙ ap (λ x. x || member j (numbers_where (λ a. any (same k) (keys a)) (suc i) l)) (member_push_all j k (keys a) i m)
    ∙ go (any (same k) (keys a))
  where
    go : (t : Bool) → member j (numbers_at k m) || t && eqb j i
        || member j (numbers_where (λ a. any (same k) (keys a)) (suc i) l)
        ≡ member j (numbers_at k m) || member j
        (cond t (i ∷ numbers_where (λ a. any (same k) (keys a)) (suc i) l)
        (numbers_where (λ a. any (same k) (keys a)) (suc i) l))
    go true =
        or_assoc (member j (numbers_at k m)) (eqb j i) (member j (numbers_where (λ a. any (same k) (keys a)) (suc i) l))
    go false =
        ap (λ x. x || member j (numbers_where (λ a. any (same k) (keys a)) (suc i) l))
        (or_false (member j (numbers_at k m)))

-- the numbers that one of two tests takes, and that one of several takes
numbers_or : (j : ℕ) (p q : Alert → Bool) (i : ℕ) (l : List Alert)
    → member j (numbers_where (λ a. p a || q a) i l) ≡ member j (numbers_where p i l) || member j (numbers_where q i l)
numbers_or j p q i [] = refl
numbers_or j p q i (a ∷ l) = go (p a) (q a) (numbers_or j p q (suc i) l)
  where
    go : (t u : Bool) → member j (numbers_where (λ a. p a || q a) (suc i) l) ≡ member j (numbers_where p (suc i) l)
        || member j (numbers_where q (suc i) l)
        → member j
        (cond (t || u) (i ∷ numbers_where (λ a. p a || q a) (suc i) l) (numbers_where (λ a. p a || q a) (suc i) l))
        ≡ member j (cond t (i ∷ numbers_where p (suc i) l) (numbers_where p (suc i) l))
        || member j (cond u (i ∷ numbers_where q (suc i) l) (numbers_where q (suc i) l))
    go true true ih = rw ih
        (once (eqb j i) (member j (numbers_where p (suc i) l)) (member j (numbers_where q (suc i) l)))
      where
        once : (e x y : Bool) → e || (x || y) ≡ e || x || (e || y)
        once true x y = refl
        once false x y = refl
    go true false ih =
        rw ih (sym (or_assoc (eqb j i) (member j (numbers_where p (suc i) l)) (member j (numbers_where q (suc i) l))))
    go false true ih =
        rw ih (past (eqb j i) (member j (numbers_where p (suc i) l)) (member j (numbers_where q (suc i) l)))
      where
        past : (e x y : Bool) → e || (x || y) ≡ x || (e || y)
        past true true y = refl
        past true false y = refl
        past false x y = refl
    go false false ih = ih

numbers_none : (j i : ℕ) (l : List Alert) → member j (numbers_where (λ a. false) i l) ≡ false
numbers_none j i [] = refl
numbers_none j i (a ∷ l) = numbers_none j (suc i) l

numbers_any : (j : ℕ) (p : List ℕ → Alert → Bool) (ks : List (List ℕ)) (i : ℕ) (l : List Alert)
    → any (λ k. member j (numbers_where (p k) i l)) ks ≡ member j (numbers_where (λ a. any (λ k. p k a) ks) i l)
numbers_any j p [] i l = sym (numbers_none j i l)
numbers_any j p (k ∷ ks) i l =
    ap (λ x. member j (numbers_where (p k) i l) || x) (numbers_any j p ks i l)
    ∙ sym (numbers_or j (p k) (λ a. any (λ k. p k a) ks) i l)

numbers_same : (p q : Alert → Bool) → ((a : Alert) → p a ≡ q a) → (i : ℕ) (l : List Alert)
    → numbers_where p i l ≡ numbers_where q i l
numbers_same p q h i [] = refl
numbers_same p q h i (a ∷ l) = rw (h a, numbers_same p q h (suc i) l) refl

-- one of the three maps, looked up by a leg's keys
member_lookup : (j : ℕ) (ks : List (List ℕ)) (keys : List ℕ → List (List ℕ)) (ids : Alert → List (List ℕ))
    (l : List Alert)
    → member j (concat_map (λ k. numbers_at k (indexed (λ a. concat_map keys (ids a)) 0 l [])) ks)
    ≡ member j (numbers_where (λ a. any (λ x. meets ks (keys x)) (ids a)) 0 l)
member_lookup j ks keys ids l =
    any_join (eqb j) (λ k. numbers_at k (indexed (λ a. concat_map keys (ids a)) 0 l [])) ks
    ∙ any_same _ _ (λ k. member_indexed j k (λ a. concat_map keys (ids a)) 0 l []) ks
    ∙ numbers_any j (λ k a. any (same k) (concat_map keys (ids a))) ks 0 l
    ∙ ap (member j)
    (numbers_same _ _
    (λ a. any_same _ _ (λ k. any_join (same k) keys (ids a)) ks
    ∙ any_swap (λ k x. any (same k) (keys x)) ks (ids a)) 0 l)

-- the keys of a trip id are the id and the undated one
meets_trip : (ks : List (List ℕ)) (t : List ℕ) → meets ks (trip_keys t) ≡ meets ks (t ∷ undated t ∷ [])
meets_trip ks t = any_same _ _ (λ k. go k (same (undated t) t) refl) ks
  where
    go : (k : List ℕ) (e : Bool) → same (undated t) t ≡ e
        → any (same k) (undated t ∷ cond e [] (t ∷ [])) ≡ any (same k) (t ∷ undated t ∷ [])
    go k true h = rw (same_true (undated t) t h) (once (same k t))
      where
        once : (x : Bool) → x || false ≡ x || (x || false)
        once true = refl
        once false = refl
    go k false h = turned (same k (undated t)) (same k t)
      where
        turned : (x y : Bool) → x || (y || false) ≡ y || (x || false)
        turned true true = refl
        turned true false = refl
        turned false true = refl
        turned false false = refl

module _ (l : List Alert) (trip route from to : List ℕ) where
  pub search_is_index : (j : ℕ) → member j (alert_candidates_for_leg l trip route from to) ≡
      member j (search l trip route from to)
  search_is_index j =
      let x = rebuild_alert_index l in
      let trips = concat_map (λ k. numbers_at k x.by_trip) (leg_trips trip) in
      let routes = concat_map (λ k. numbers_at k x.by_route) (leg_routes route) in
      let stops = concat_map (λ k. numbers_at k x.by_stop) (leg_stops from to) in
      let by_trip : Alert → Bool = λ a. any (λ t. meets (leg_trips trip) (t ∷ undated t ∷ [])) (informed_trip_ids a) in
      let by_route : Alert → Bool = λ a. any (λ r. meets (leg_routes route) (id_keys r)) (informed_route_ids a) in
      let by_stop : Alert → Bool = λ a. any (λ s. meets (leg_stops from to) (id_keys s)) (informed_stop_ids a) in
      let each : member j trips || member j routes || member j stops ≡
      member j (numbers_where (λ a. by_trip a || by_route a || by_stop a) 0 l) =
      rw (
        member_lookup j (leg_trips trip) trip_keys informed_trip_ids l,
        member_lookup j (leg_routes route) id_keys informed_route_ids l,
        member_lookup j (leg_stops from to) id_keys informed_stop_ids l,
        numbers_same _ by_trip (λ a. any_same _ _ (meets_trip (leg_trips trip)) (informed_trip_ids a)) 0 l,
        numbers_or j (λ a. by_trip a || by_route a) by_stop 0 l,
        numbers_or j by_trip by_route 0 l,
      )
      refl in
      member_distinct j [] (trips ++ routes ++ stops) ∙ any_append (eqb j) (trips ++ routes) stops
      ∙ ap (λ t. t || member j stops) (any_append (eqb j) trips routes) ∙ each

-- whatever is asked of some candidate
member_any : (p : ℕ → Bool) (l : List ℕ) (j : ℕ) → member j l ≡ true → p j ≡ true → any p l ≡ true
member_any p [] j h e = false_true h
member_any p (i ∷ l) j h e = go (eqb j i) refl (member_any p l j)
  where
    go : (t : Bool) → eqb j i ≡ t → (member j l ≡ true → p j ≡ true → any p l ≡ true) → p i || any p l ≡ true
    go true x ih = rw (← eqb-true j i x, e) refl
    go false x ih = rw (ih (sym (ap (λ t. t || member j l) x) ∙ h) e) (or_comm (p i) true)

any_member : (p : ℕ → Bool) (l : List ℕ) → any p l ≡ true → (j : ℕ) × (member j l ≡ true) × (p j ≡ true)
any_member p [] h = false_true h
any_member p (i ∷ l) h = go (p i) refl (any_member p l)
  where
    go : (t : Bool) → p i ≡ t → (any p l ≡ true → (j : ℕ) × (member j l ≡ true) × (p j ≡ true))
        → (j : ℕ) × (member j (i ∷ l) ≡ true) × (p j ≡ true)
    go true x ih = (i, rw (eq-eqb i i refl) refl, x)
    go false x ih =
        let (j, m, e) = ih (sym (ap (λ t. t || any p l) x) ∙ h) in
        (j, rw m (or_comm (eqb j i) true), e)

any_members : (p : ℕ → Bool) (l m : List ℕ) → ((j : ℕ) → member j l ≡ member j m) → any p l ≡ any p m
any_members p l m h = both_ways (any p l) (any p m) (half l m h) (half m l (λ j. sym (h j)))
  where
    half : (l m : List ℕ) → ((j : ℕ) → member j l ≡ member j m) → any p l ≡ true → any p m ≡ true
    half l m h e = let (j, g, x) = any_member p l e in member_any p m j (sym (h j) ∙ g) x

module _ (l : List Alert) (trip route from to : List ℕ) where
  pub any_candidates : (p : ℕ → Bool)
      → any p (alert_candidates_for_leg l trip route from to) ≡ any p (search l trip route from to)
  any_candidates p =
      any_members p (alert_candidates_for_leg l trip route from to) (search l trip route from to)
      (search_is_index l trip route from to)
