-- Law. The candidates of a leg: an alert's three lists, a number pushed once, and a loop over a feed's alerts.
use Rattle.std.specs.Prelude.{◌≡◌, refl, List, [], ◌∷◌, ◌++◌, Bool, true, false, cond, not, ◌&&◌, ◌||◌, ℕ, suc, ◌+◌, ◌-◌, ◌≤◌, ◌<◌, eqb, length, take, set}
use Rattle.std.proofs.Common.{sym, ap, ◌∙◌, append-nil, arith, length-set, length-append, take-suc-set, add-one, eq-eqb, ne_eqb, eqb-true}
use Rattle.std.proofs.lemmas.Bool.{not-false}
use Rattle.basics.specs.Lists.{any, member}
use Rattle.basics.specs.Laws.Lists.{any_append}
use Rattle.basics.specs.Laws.Booleans.{false_true, and_no, or_false, not_true}
use Rattle.formats.specs.Class as Class
use Rattle.formats.specs.Format.{text, optional, ◌&◌}
use Rattle.formats_read.specs.Promises.Here.{Here}
use Rattle.formats_read.specs.Promises.Reads.{ReadsNumber}
use Rattle.formats_read.specs.Laws.Here.{halves}
use Rattle.formats_read.specs.Laws.Walk.{Walk, begin, onward, ended, of_list}
use Rattle.formats_skip.specs.Promises.Passes.{Passes, Leads}
use Rattle.formats_skip.specs.Laws.Leads.{lead_field, lead_here, lead_optional_text}
use Rattle.alerts.specs.Alert.{alert, ids, Alert, informed_trip_ids, informed_route_ids, informed_stop_ids}
use Rattle.alerts.specs.Index.{undated, candidate, numbers_where}
use Rattle.alerts_search.specs.declared.ids.Ask.{Ask}
use Rattle.alerts_search.specs.declared.candidates.Meet.{Meet}
use Rattle.alerts_search.specs.declared.ids.Ask.TheVariants.{MeetsTrip, MeetsRoute, MeetsStops}
use Rattle.alerts_search.specs.Promises.Ids.{answer_of, Asked}
use Rattle.alerts_search.specs.Promises.Marks.{most_marks, marked, Marks, Unmarked}
use Rattle.alerts_search.specs.Promises.Candidates.{Met, Pushed, Pushes, Candidates}

-- ---- an alert's three lists, one after the other, behind its three texts

pub past_texts : {s : List ℕ} {p a b r : ℕ} → Passes (optional (text 0 Class.any)) s p a
    → Passes (optional (text 0 Class.any)) s a b → Passes (optional (text 0 Class.any)) s b r → Leads 3 alert s p r
past_texts P Q R = lead_optional_text 2 (lead_optional_text 1 (lead_optional_text 0 lead_here R) Q) P

pub record Lists (s : List ℕ) (p q : ℕ) (a : Alert) (x y z : ℕ) : Type 0 where
  pub trips : Here ids s x y (informed_trip_ids a)
  pub routes : Here ids s y z (informed_route_ids a)
  pub stops : Here ids s z q (informed_stop_ids a)

module _ {i j k : Ask} {x y x' y' x'' y'' s : List ℕ} {p b c d n : ℕ} {t r u : Bool} (L : Leads 3 alert s p b)
    (T : Asked i x y s b t c) (R : Asked j x' y' s c r d) (U : Asked k x'' y'' s d u n) where
  -- where the lists stand
  lists : {a : Alert} {q : ℕ} → Here alert s p q a → Lists s p q a b c d
  lists {a} {q} h =
      let x = halves (lead_field L tt h).here in
      let e : c ≡ _ = T.next x.first in
      let second : Here (ids & ids) s c q a.1.1.1.1 = rw e x.second in
      let y = halves second in
      let f : d ≡ _ = R.next y.first in
      record { trips = rw e x.first; routes = rw f y.first; stops = rw f y.second }

  pub in_trips : {a : Alert} {q : ℕ} → Here alert s p q a → t ≡ any (answer_of i x y) (informed_trip_ids a)
  in_trips h = T.is (lists h).trips

  pub in_routes : {a : Alert} {q : ℕ} → Here alert s p q a → r ≡ any (answer_of j x' y') (informed_route_ids a)
  in_routes h = R.is (lists h).routes

  pub in_stops : {a : Alert} {q : ℕ} → Here alert s p q a → u ≡ any (answer_of k x'' y'') (informed_stop_ids a)
  in_stops h = U.is (lists h).stops

  pub alert_end : {a : Alert} {q : ℕ} → Here alert s p q a → n ≡ q
  alert_end h = U.next (lists h).stops

pub met : {trip route from to base s : List ℕ} {p b c d n : ℕ} {t r u : Bool} → Leads 3 alert s p b
    → base ≡ undated trip → Asked MeetsTrip trip base s b t c → Asked MeetsRoute route route s c r d
    → Asked MeetsStops from to s d u n
    → Met trip route from to s p (record { trip = t; route = r; stop = u; next = n })
met {trip} {route} {from} {to} L e T R U =
    let T' = rw e at T in
    record {
      by_trip = λ h. in_trips L T' R U h;
      by_route = λ h. in_routes L T' R U h;
      by_stop = λ h. in_stops L T' R U h;
      next = λ h. alert_end L T' R U h;
    }

met_candidate : {trip route from to s : List ℕ} {p : ℕ} {m : Meet} → Met trip route from to s p m → {a : Alert} {q : ℕ}
    → Here alert s p q a → m.trip || m.route || m.stop ≡ candidate trip route from to a
met_candidate M h = rw (M.by_trip h, M.by_route h, M.by_stop h) refl

-- ---- a number pushed

module _ (i n : ℕ) (c m : List ℕ) where
  pub push_miss : (hit : Bool) → not hit ≡ true → Pushed hit i n n c c m m
  push_miss hit e =
      let f = not_true hit e in
      record {
        kept = refl;
        kept_marks = refl;
        still = λ x. (refl, refl);
        added = λ x. false_true (sym (ap (λ b. b && not (marked m i)) f) ∙ x);
        marks = λ j. rw f (sym (or_false (marked m j)));
      }

  again : (hit t : Bool) (j : ℕ) → t ≡ marked m i → t ≡ true → marked m j ≡ marked m j || hit && eqb j i
  again hit t j e f = go (eqb j i) refl
    where
      go : (b : Bool) → eqb j i ≡ b → marked m j ≡ marked m j || hit && b
      go true g = let is : j ≡ i = eqb-true j i g in rw (is, sym e ∙ f) refl
      go false g = rw (and_no hit) (sym (or_false (marked m j)))

  pub push_marked : (hit t : Bool) → t ≡ marked m i → t ≡ true → Pushed hit i n n c c m m
  push_marked hit t e f = record {
    kept = refl;
    kept_marks = refl;
    still = λ x. (refl, refl);
    added = λ x. false_true (sym (ap (λ b. hit && not b) (sym e ∙ f) ∙ and_no hit) ∙ x);
    marks = λ j. again hit t j e f;
  }

  module _ (o : List ℕ) (hit t : Bool) (e : not hit ≡ false) (g : t ≡ marked m i) (f : t ≡ false)
      (M : Marks m o i) where
    fresh : hit && not (marked m i) ≡ true
    fresh = rw (not-false hit e, sym g ∙ f) refl

    one_mark : (j : ℕ) → marked o j ≡ marked m j || hit && eqb j i
    one_mark j = M.marks j ∙ rw (not-false hit e) refl

    pub push_full : length c ≤ n → Pushed hit i n n c c m o
    push_full h = record {
      kept = refl;
      kept_marks = M.kept;
      still = λ x. (refl, refl);
      added = λ x l. absurd (omega arith);
      marks = one_mark;
    }

    pub push_new : n < length c → Pushed hit i n (n + 1) c (set c n i) m o
    push_new h = record {
      kept = length-set c n i;
      kept_marks = M.kept;
      still = λ x. false_true (sym x ∙ fresh);
      added = λ x l. (refl, rw (add-one n) (take-suc-set c n i h));
      marks = one_mark;
    }

-- pushed twice: the second time it is marked
record Twice (x y z : Bool) : Type 0 where
  none : z ≡ false → (x ≡ false) × (y ≡ false)
  some : z ≡ true → x ≡ true → y ≡ false
  later : z ≡ true → x ≡ false → y ≡ true

twice : (a b m : Bool) → Twice (a && not m) (b && not (m || a && true)) ((a || b) && not m)
twice true b true = record {
  none = λ e. (refl, and_no b);
  some = λ e. false_true e;
  later = λ e. false_true e;
}
twice true b false = record {
  none = λ e. false_true (sym e);
  some = λ e f. and_no b;
  later = λ e f. false_true (sym f);
}
twice false b m = record {
  none = λ e. (refl, rw (or_false m) e);
  some = λ e f. false_true f;
  later = λ e f. rw (or_false m) e;
}

both_marks : (x a b e : Bool) → x || a && e || b && e ≡ x || (a || b) && e
both_marks true a b e = refl
both_marks false true b true = refl
both_marks false true b false = and_no b
both_marks false false b e = refl

module _ {a b : Bool} {i n k r : ℕ} {c d e m o w : List ℕ} (P : Pushed a i n k c d m o)
    (Q : Pushed b i k r d e o w) where
  again_marked : b && not (marked o i) ≡ b && not (marked m i || a && true)
  again_marked =
      let e : marked o i ≡ marked m i || a && true = P.marks i ∙ rw (eq-eqb i i refl) refl in
      ap (λ t. b && not t) e

  pub then : Pushed (a || b) i n r c e m w
  then = let T = twice a b (marked m i) in record {
    kept = Q.kept ∙ P.kept;
    kept_marks = Q.kept_marks ∙ P.kept_marks;
    still = λ x.
        let y = T.none x in
        let p = P.still y.0 in
        let q = Q.still (again_marked ∙ y.1) in
        (q.0 ∙ p.0, q.1 ∙ p.1);
    added = λ x l. first x l (a && not (marked m i)) refl;
    marks = λ j. Q.marks j ∙ rw (P.marks j) (both_marks (marked m j) a b (eqb j i));
  }
    where
      first : (a || b) && not (marked m i) ≡ true → n < length c → (t : Bool) → a && not (marked m i) ≡ t
          → (r ≡ n + 1) × (take r e ≡ take n c ++ (i ∷ []))
      first x l true f =
          let p = P.added f l in
          let q = Q.still (again_marked ∙ (twice a b (marked m i)).some x f) in
          (q.0 ∙ p.0, rw (q.0, q.1) p.1)
      first x l false f =
          let p = P.still f in
          let l' : k < length d = omega (arith, p.0, ap length p.1) in
          let q = Q.added (again_marked ∙ (twice a b (marked m i)).later x f) l' in
          (q.0 ∙ ap (λ j. j + 1) p.0, q.1 ∙ rw (p.0, p.1) refl)

pub push_none : {hit : Bool} {i n : ℕ} {c m : List ℕ} → 256 ≤ i → Pushes hit i n n c c m m
push_none h = record { kept = refl; kept_marks = refl; pushed = λ l. absurd (omega arith) }

pub push_three : {t r u : Bool} {i n k l v : ℕ} {c d e f m o w x : List ℕ} → Pushed t i n k c d m o
    → Pushed r i k l d e o w → Pushed u i l v e f w x → Pushes (t || r || u) i n v c f m x
push_three P Q R =
    let S = then (then P Q) R in
    record { kept = S.kept; kept_marks = S.kept_marks; pushed = λ h. S }

-- ---- the numbers of the alerts, one alert after the other

module _ (p : Alert → Bool) where
  numbers_snoc : (i : ℕ) (us : List Alert) (v : Alert)
      → numbers_where p i (us ++ (v ∷ [])) ≡ numbers_where p i us ++ cond (p v) ((i + length us) ∷ []) []
  numbers_snoc i [] v = let n : i + 0 ≡ i = omega arith in rw n refl
  numbers_snoc i (u ∷ us) v =
      let n : suc i + length us ≡ i + suc (length us) = omega arith in
      rw (numbers_snoc (suc i) us v, n) (go (p u))
    where
      go : (t : Bool) → cond t (i ∷ (numbers_where p (suc i) us ++ cond (p v) ((i + suc (length us)) ∷ []) []))
          (numbers_where p (suc i) us ++ cond (p v) ((i + suc (length us)) ∷ []) [])
          ≡ cond t (i ∷ numbers_where p (suc i) us) (numbers_where p (suc i) us)
          ++ cond (p v) ((i + suc (length us)) ∷ []) []
      go true = refl
      go false = refl

  -- no number is as large as the count
  numbers_below : (i j : ℕ) (us : List Alert) → i + length us ≤ j → member j (numbers_where p i us) ≡ false
  numbers_below i j [] h = refl
  numbers_below i j (u ∷ us) h = go (p u) (numbers_below (suc i) j us (omega arith))
    where
      go : (t : Bool) → member j (numbers_where p (suc i) us) ≡ false
          → member j (cond t (i ∷ numbers_where p (suc i) us) (numbers_where p (suc i) us)) ≡ false
      go true e = rw (ne_eqb j i (λ e. omega arith)) e
      go false e = e

  pub numbers_few : (i : ℕ) (us : List Alert) → length (numbers_where p i us) ≤ length us
  numbers_few i [] = omega arith
  numbers_few i (u ∷ us) = go (p u) (numbers_few (suc i) us)
    where
      go : (t : Bool) → length (numbers_where p (suc i) us) ≤ length us
          → length (cond t (i ∷ numbers_where p (suc i) us) (numbers_where p (suc i) us)) ≤ suc (length us)
      go true e = omega arith
      go false e = omega arith

-- ---- a loop over the alerts

-- i alerts are behind, n numbers are written to c, and those are marked in m
pub record Written (p : Alert → Bool) (us : List Alert) (n : ℕ) (c m : List ℕ) : Type 0 where
  pub count : n ≡ length (numbers_where p 0 us)
  pub list : take n c ≡ numbers_where p 0 us
  pub marks : (j : ℕ) → marked m j ≡ member j (numbers_where p 0 us)

pub record Behind (p : Alert → Bool) (i n : ℕ) (c m : List ℕ) (us : List Alert) : Type 0 where
  pub length_is : length us ≡ i
  pub written : length us ≤ 256 → Written p us n c m

module _ (p : Alert → Bool) (us : List Alert) (v : Alert) {n : ℕ} {c m : List ℕ} (W : Written p us n c m)
    (room : length c ≡ 256) (h : length us < 256) where
  unmarked : marked m (length us) ≡ false
  unmarked = W.marks (length us) ∙ numbers_below p 0 (length us) us (omega arith)

  one_written : {r : ℕ} {d o : List ℕ} (t : Bool) → p v ≡ t → Pushed t (length us) n r c d m o
      → Written p (us ++ (v ∷ [])) r d o
  one_written true e P =
      let l : n < length c = omega (arith, W.count, numbers_few p 0 us, room) in
      let a = P.added (rw unmarked refl) l in
      let z : 0 + length us ≡ length us = omega arith in
      let s : numbers_where p 0 (us ++ (v ∷ [])) ≡ numbers_where p 0 us ++ (length us ∷ []) =
      numbers_snoc p 0 us v ∙ rw (e, z) refl in
      record {
        count = a.0 ∙ ap (λ k. k + 1) W.count
            ∙ sym (ap length s ∙ length-append (numbers_where p 0 us) (length us ∷ []));
        list = a.1 ∙ ap (λ x. x ++ (length us ∷ [])) W.list ∙ sym s;
        marks = λ j. P.marks j
            ∙ rw (W.marks j) (sym (ap (member j) s ∙ any_append (eqb j) (numbers_where p 0 us) (length us ∷ [])
            ∙ ap (λ b. member j (numbers_where p 0 us) || b) (or_false (eqb j (length us)))));
      }
  one_written false e P =
      let a = P.still refl in
      let s : numbers_where p 0 (us ++ (v ∷ [])) ≡ numbers_where p 0 us =
      numbers_snoc p 0 us v ∙ rw e (append-nil (numbers_where p 0 us)) in
      record {
        count = a.0 ∙ W.count ∙ sym (ap length s);
        list = rw (a.0, a.1) (W.list ∙ sym s);
        marks = λ j. P.marks j ∙ or_false (marked m j) ∙ W.marks j ∙ sym (ap (member j) s);
      }

pub record Searching (trip route from to s : List ℕ) (a n p left i k : ℕ) (c m : List ℕ) : Type 0 where
  pub walk : Walk alert s a n p left (Behind (candidate trip route from to) i k c m)
  pub count : i + left ≡ n
  pub room : length c ≡ 256
  pub marks : length m ≡ most_marks

module _ {trip route from to s : List ℕ} {a n : ℕ} where
  pub searching_start : {c m : List ℕ} → length c ≡ 256 → Unmarked m → Searching trip route from to s a n a n 0 0 c m
  searching_start {c} {m} h U = record {
    walk = begin (record {
      length_is = refl;
      written = λ x. record { count = refl; list = refl; marks = U.none };
    });
    count = omega arith;
    room = h;
    marks = U.kept;
  }

  module _ {p left i k : ℕ} {c m : List ℕ} (S : Searching trip route from to s a n p left i k c m) where
    pub searching_on : {r : ℕ} {d o : List ℕ} {t : Meet} → 0 < left → Met trip route from to s p t
        → Pushes (t.trip || t.route || t.stop) i k r c d m o
        → Searching trip route from to s a n t.next (left - 1) (i + 1) r d o
    searching_on {r} {d} {o} {t} z M P = record {
      walk = onward S.walk t.next z (λ v q h. M.next h) (λ us v B h. record {
        length_is = length-append us (v ∷ []) ∙ ap (λ j. j + 1) B.length_is;
        written = λ x.
            let x' : length us < 256 = omega (arith, length-append us (v ∷ [])) in
            let i' : i < 256 = omega (arith, B.length_is) in
            let e = met_candidate M h in
            let Q = rw (← B.length_is) at (P.pushed i') in
            one_written (candidate trip route from to) us v (B.written (omega arith)) S.room x'
            (t.trip || t.route || t.stop) (sym e) Q;
      });
      count = omega (arith, S.count);
      room = P.kept ∙ S.room;
      marks = P.kept_marks ∙ S.marks;
    }

    pub searching_end : {at : ℕ} → ReadsNumber s at n a → left ≤ 0 → Candidates trip route from to s at k c
    searching_end N z = record {
      kept = S.room;
      is = λ h l. ((of_list h N (ended S.walk z)).written l).list;
      count = λ h l. ((of_list h N (ended S.walk z)).written l).count;
    }
