-- Law. What an alert's ids hit, and whether it applies: the cheaper order of the tests gives the same.
use Rattle.std.specs.Prelude.{◌≡◌, refl, List, [], ◌∷◌, Bool, true, false, cond, not, ◌&&◌, ◌||◌, ℕ, eqb, length, replicate}
use Rattle.std.proofs.Common.{sym, ap, ◌∙◌, inl, arith, eq-eqb, ne_eqb}
use Rattle.std.proofs.lemmas.Bool.{not-true, not-false}
use Rattle.basics.specs.Lists.{any, is_empty}
use Rattle.basics.specs.Texts.{same}
use Rattle.basics.specs.Laws.Lists.{any_none, any_or, any_implies}
use Rattle.basics.specs.Laws.Booleans.{and_yes, and_no, or_assoc, absorb_right, false_true}
use Rattle.formats_read.specs.Promises.Here.{Here}
use Rattle.formats_skip.specs.Promises.Passes.{Leads}
use Rattle.alerts.specs.Alert.{alert, Alert, informed_route_ids, informed_stop_ids}
use Rattle.alerts.specs.Text.{same_ignoring_case, trim}
use Rattle.alerts.specs.Index.{undated}
use Rattle.alerts.specs.Applies.{product_code_token, stop_tail, route_refs_match, by_name, by_product}
use Rattle.alerts.specs.Applies.{route_hit}
use Rattle.alerts.specs.Applies.{road_blob, is_rail_like_mode, alert_applies_to_leg_with_mode}
use Rattle.alerts.specs.Promises.Reduced.{hits_trip, hits_stop, hits_route, text_fits, road}
use Rattle.alerts.proofs.Laws.ProductCodes.{product_code_never_decides}
use Rattle.alerts.proofs.Laws.Implied.{applies_reduced}
use Rattle.alerts_search.specs.declared.ids.Ask.TheVariants.{HitsTrip, HitsRoute, HitsStops}
use Rattle.alerts_search.specs.Promises.Ids.{hits_stop_id, hits_route_id, Asked}
use Rattle.alerts_search.specs.Laws.Candidates.{in_trips, in_routes, in_stops}
use Rattle.alerts_apply.specs.declared.hits.Hit.{Hit}
use Rattle.alerts_apply.specs.Promises.Words.{Says, WordsSay, Fits, RoadKnown}
use Rattle.alerts_apply.specs.Promises.Hits.{unless, HitBy, hit_any, told_of, decided_of, Clear, Told, Decided}
use Rattle.alerts_apply.specs.Promises.Hits.{DecidedNew}

-- ---- a list of ids

any_and : {A : Type 0} (b : Bool) (p : A → Bool) (l : List A) → any (λ a. b && p a) l ≡ b && any p l
any_and true p l = refl
any_and false p l = any_none l

pub empty_hit : (n : ℕ) (hit : Bool) → n ≡ 0 → false ≡ unless n hit
empty_hit n hit e = rw (eq-eqb n 0 e) refl

pub plain_hit : (n : ℕ) (hit : Bool) → (n ≡ 0 → ⊥) → hit ≡ unless n hit
plain_hit n hit d = rw (ne_eqb n 0 d) refl

count_empty : (l : List ℕ) → eqb (length l) 0 ≡ is_empty l
count_empty [] = refl
count_empty (b ∷ l) = ne_eqb (length (b ∷ l)) 0 (λ e. omega arith)

-- stops
stop_hit : (stop : List ℕ) (l : List (List ℕ)) → any (hits_stop_id stop) l ≡ not (is_empty stop)
    && any (λ s. same s stop || same_ignoring_case (stop_tail s) (stop_tail stop)) l
stop_hit stop l =
    any_and (not (is_empty stop)) (λ s. same s stop || same_ignoring_case (stop_tail s) (stop_tail stop)) l

stops_hit : (a : Alert) (from to : List ℕ)
    → any (λ s. hits_stop_id from s || hits_stop_id to s) (informed_stop_ids a) ≡ hits_stop a from || hits_stop a to
stops_hit a from to =
    any_or (hits_stop_id from) (hits_stop_id to) (informed_stop_ids a)
    ∙ rw (stop_hit from (informed_stop_ids a), stop_hit to (informed_stop_ids a)) refl

-- a route: the table of product codes never decides
module _ (route s : List ℕ) where
  by_table : List ℕ → Bool
  by_table r = by_product (product_code_token route) s (product_code_token r)

  table_never : (l : List (List ℕ)) → any by_table l ≡ true → any (route_refs_match route) l ≡ true
  unfolding by_table
  table_never l h =
      any_implies (λ r. by_product (product_code_token route) s (product_code_token r)) (route_refs_match route)
      (λ r. product_code_never_decides route r s) l h

  names_hit : (l : List (List ℕ)) (t : Bool)
      → any (route_refs_match route) l || t && any (λ r. by_name s r || by_table r) l
      ≡ any (route_refs_match route) l || t && any (by_name s) l
  names_hit l false = refl
  names_hit l true =
      ap (λ x. any (route_refs_match route) l || x) (any_or (by_name s) by_table l)
      ∙ sym (or_assoc (any (route_refs_match route) l) (any (by_name s) l) (any by_table l))
      ∙ absorb_right (any (route_refs_match route) l || any (by_name s) l) (any by_table l)
      (λ h. rw (table_never l h) refl)

  each_hit : (l : List (List ℕ)) → any (hits_route_id route s) l ≡ any (route_refs_match route) l
      || not (is_empty s) && any (λ r. by_name s r || by_table r) l
  each_hit l =
      any_or (route_refs_match route) (λ r. not (is_empty s) && by_name s r) l
      ∙ ap (λ x. any (route_refs_match route) l || x) (any_and (not (is_empty s)) (by_name s) l)
      ∙ sym (names_hit l (not (is_empty s)))

  some_hit : (l : List (List ℕ)) → any (hits_route_id route s) l ≡ not (is_empty l)
      && (any (route_refs_match route) l || not (is_empty s) && any (λ r. by_name s r || by_table r) l)
  some_hit [] = refl
  some_hit (r ∷ l) = each_hit (r ∷ l)

route_is : (a : Alert) (route short : List ℕ)
    → any (hits_route_id route (trim short)) (informed_route_ids a) ≡ route_hit a route short
unfolding by_table
route_is a route short = some_hit route (trim short) (informed_route_ids a)

-- the reduced form's test of a route, by an alert that has no other ids and no texts
strip : {x y : Bool} (t : Bool) → x && cond t true true ≡ y && (t || true) → x ≡ y
strip {x} {y} true e = sym (and_yes x) ∙ e ∙ and_yes y
strip {x} {y} false e = sym (and_yes x) ∙ e ∙ and_yes y

route_reduced : (a : Alert) (route short : List ℕ) → route_hit a route short ≡ hits_route a route (trim short)
route_reduced a route short =
    strip (is_empty (trim short))
    (applies_reduced (inl tt, (inl tt, (inl tt, ([], (informed_route_ids a, []))))) [] route short [] [] [])

routes_hit : (a : Alert) (route short : List ℕ)
    → any (hits_route_id route (trim short)) (informed_route_ids a) ≡ hits_route a route (trim short)
routes_hit a route short = route_is a route short ∙ route_reduced a route short

pub hit_by : {trip route short from to base s : List ℕ} {p b c d n : ℕ} {t r u w : Bool} → Leads 3 alert s p b
    → base ≡ undated trip → Asked HitsTrip trip base s b t c → Asked HitsRoute route short s c r d
    → Asked HitsStops from to s d u n → w ≡ unless (length base) t
    → HitBy trip route short from to s p (record { trip = w; route = r; stop = u })
hit_by {trip} {route} {short} {from} {to} {base} L e T R U f =
    let T' = rw e at T in
    let f' = rw e at f in
    record {
      by_trip = λ {a} h. f' ∙ rw (count_empty (undated trip), in_trips L T' R U h) refl;
      by_route = λ {a} h whole k. in_routes L T' R U h ∙ rw k (routes_hit a route whole);
      by_stop = λ {a} h. in_stops L T' R U h ∙ stops_hit a from to;
    }

-- ---- whether the alert applies

module _ {s : List ℕ} {p : ℕ} {mode old w : List ℕ} {t : Bool} (e : t ≡ is_rail_like_mode mode) where
  pub clear_mode : not t ≡ true → Clear s p mode true old old w w
  clear_mode f = record {
    kept = refl;
    words = refl;
    says = λ S. S;
    is = λ S {a} h l. clear (is_rail_like_mode mode) (road (road_blob a)) (sym e ∙ not-true t f);
  }
    where
      clear : (x y : Bool) → x ≡ false → true ≡ not (x && y)
      clear x y g = rw g refl

  pub clear_road : {r : Bool} {new w' : List ℕ} → not t ≡ false → RoadKnown s p r old new w w'
      → Clear s p mode (not r) old new w w'
  clear_road {r} f R = record {
    kept = R.kept;
    words = R.words;
    says = R.says;
    is = λ S {a} h l. clear (is_rail_like_mode mode) (road (road_blob a)) (sym e ∙ not-false t f) (R.is S h l);
  }
    where
      clear : (x y : Bool) → x ≡ true → r ≡ y → not r ≡ not (x && y)
      clear x y g k = rw (g, k) refl

module _ {s : List ℕ} {p : ℕ} {short : List ℕ} {h : Hit} {old w : List ℕ} where
  at_once : {r : Bool} → ((a : Alert) → r ≡ told_of h a short) → Told s p short h r old old w w
  at_once e = record { kept = refl; words = refl; says = λ S. S; is = λ S {a} x l. e a }

  pub told_trip : h.trip ≡ true → Told s p short h true old old w w
  told_trip e = at_once (λ a. go (text_fits a short))
    where
      go : (f : Bool) → true ≡ h.trip || h.stop || h.route && f
      go f = rw e refl

  pub told_stop : h.trip ≡ false → h.stop ≡ true → Told s p short h true old old w w
  told_stop e g = at_once (λ a. go (text_fits a short))
    where
      go : (f : Bool) → true ≡ h.trip || h.stop || h.route && f
      go f = rw (e, g) refl

  pub told_none : h.trip ≡ false → h.stop ≡ false → not h.route ≡ true → Told s p short h false old old w w
  told_none e g k = at_once (λ a. go (text_fits a short))
    where
      go : (f : Bool) → false ≡ h.trip || h.stop || h.route && f
      go f = rw (e, g, not-true h.route k) refl

  pub told_text : {r : Bool} {new w' : List ℕ} → h.trip ≡ false → h.stop ≡ false → not h.route ≡ false
      → Fits s p short r old new w w' → Told s p short h r old new w w'
  told_text {r} e g k F = record {
    kept = F.kept;
    words = F.words;
    says = F.says;
    is = λ S {a} x l. go (text_fits a short) (F.is S x l);
  }
    where
      go : (f : Bool) → r ≡ f → r ≡ h.trip || h.stop || h.route && f
      go f j = rw (e, g, not-false h.route k) j

none_hit : (x y z f : Bool) → x || y || z ≡ false → x || y || z && f ≡ false
none_hit true y z f g = false_true (sym g)
none_hit false true z f g = false_true (sym g)
none_hit false false z f g = rw g refl

module _ {s : List ℕ} {p : ℕ} {short mode : List ℕ} {h : Hit} {old w : List ℕ} {t : Bool} (e : t ≡ hit_any h) where
  pub decided_none : not t ≡ true → Decided s p short mode h false old old w w
  decided_none f = record {
    kept = refl;
    words = refl;
    says = λ S. S;
    is = λ S {a} x l. go (not (is_rail_like_mode mode && road (road_blob a))) (text_fits a short);
  }
    where
      go : (n g : Bool) → false ≡ n && (h.trip || h.stop || h.route && g)
      go n g = rw (none_hit h.trip h.stop h.route g (sym e ∙ not-true t f)) (sym (and_no n))

  pub decided_road : {r : Bool} {new w' : List ℕ} → Clear s p mode r old new w w' → not r ≡ true
      → Decided s p short mode h false old new w w'
  decided_road {r} C f = record {
    kept = C.kept;
    words = C.words;
    says = C.says;
    is = λ S {a} x l. go (not (is_rail_like_mode mode && road (road_blob a))) (text_fits a short) (C.is S x l.road);
  }
    where
      go : (n g : Bool) → r ≡ n → false ≡ n && (h.trip || h.stop || h.route && g)
      go n g k = rw (sym k ∙ not-true r f) refl

  pub decided_told : {r u : Bool} {new text w' w'' : List ℕ} → Clear s p mode r old new w w' → not r ≡ false
      → Told s p short h u new text w' w'' → Decided s p short mode h u old text w w''
  decided_told {r} {u} {new} {text} {w'} {w''} C f T = record {
    kept = T.kept ∙ C.kept;
    words = T.words ∙ C.words;
    says = λ S. rw C.kept at (T.says (later S));
    is = λ S {a} x l.
        let room = rw (← C.kept) at l.name in
        go (not (is_rail_like_mode mode && road (road_blob a))) (text_fits a short) (C.is S x l.road)
        (T.is (later S) x room);
  }
    where
      later : WordsSay (length old) s p w → WordsSay (length new) s p w'
      later S = rw C.kept (C.says S)

      go : (n g : Bool) → r ≡ n → u ≡ h.trip || h.stop || h.route && g
          → u ≡ n && (h.trip || h.stop || h.route && g)
      go n g k j = rw (sym k ∙ not-false r f) j

-- nothing is known yet
pub says_nothing : (n : ℕ) (s : List ℕ) (p m : ℕ) → Says n s p 0 0 m
says_nothing n s p m = record {
  not_road = λ h l e. absurd (omega arith);
  is_road = λ h l e. absurd (omega arith);
  named = λ h e. absurd (omega arith);
}

pub decided_new : {s : List ℕ} {p : ℕ} {short mode : List ℕ} {h : Hit} {r : Bool} {old new w' : List ℕ}
    → Decided s p short mode h r old new (replicate 3 0) w' → DecidedNew s p short mode h r old new
decided_new {s} {p} {old = old} D = record { kept = D.kept; is = D.is (says_nothing (length old) s p 0) }

-- ---- the answer is the rules'

module _ {trip route from to name s : List ℕ} {p : ℕ} {h : Hit} (short mode : List ℕ) (e : name ≡ trim short)
    (H : HitBy trip route name from to s p h) where
  pub decided_is : {a : Alert} {q : ℕ} → Here alert s p q a
      → decided_of h a name mode ≡ alert_applies_to_leg_with_mode a trip route short from to mode
  decided_is {a} x =
      joined h.trip h.stop h.route (hits_trip a trip) (hits_stop a from || hits_stop a to)
      (hits_route a route (trim short)) (not (is_rail_like_mode mode && road (road_blob a))) (text_fits a name)
      (text_fits a (trim short)) (H.by_trip x) (H.by_stop x)
      (H.by_route x short e ∙ ap (hits_route a route) e) (ap (text_fits a) e)
      ∙ sym (applies_reduced a trip route short from to mode)
    where
      joined : (t u v t' u' v' n f f' : Bool) → t ≡ t' → u ≡ u' → v ≡ v' → f ≡ f'
          → n && (t || u || v && f) ≡ n && (t' || u' || v' && f')
      joined t u v t' u' v' n f f' a b c d = rw (a, b, c, d) refl
