-- Law. Look-ups by the searches that they are made of.
use Rattle.std.specs.Prelude.{◌≡◌, refl, Bool, false, cond, List, [], ◌∷◌, ◌++◌, ℕ, suc, ◌+◌, ◌-◌, ◌*◌, ◌≤◌, ◌<◌, length, take, drop, get_or, Option, Some, None}
use Rattle.std.proofs.Math.Path.{sym, ap}
use Rattle.std.proofs.Common.{◌∙◌, append_assoc, add-one, arith, length-append, length-drop, take-append-drop, take_all, take_at, drop-cons, eq-eqb}
use Rattle.std.proofs.Math.Bool.{true}
use Rattle.std.proofs.Math.Option.{none, some}
use Rattle.basics.specs.Options.{or_else, bind_o}
use Rattle.basics.specs.Texts.{same}
use Rattle.basics.specs.Laws.Booleans.{false_true}
use Rattle.basics.specs.Laws.Texts.{same_true, same_refl}
use Rattle.maps.specs.Map.{get}
use Rattle.maps.specs.Order.{texts}
use Rattle.formats.specs.Class.{any}
use Rattle.formats.specs.Format.{text}
use Rattle.formats_write.specs.Promises.Given.{given_number}
use Rattle.formats_read.specs.Laws.Here.{halves}
use Rattle.formats_skip.specs.Promises.Passes.{Passes}
use Rattle.formats_skip.specs.Laws.Passes.{any_text}
use Rattle.decode.specs.Leaves.{Trips}
use Rattle.decode.specs.Sizes.{most_trips}
use Rattle.decode.specs.Trip.{Trip, trip_entry}
use Rattle.overlay.specs.State.{Feed, trips_of}
use Rattle.overlay.specs.Lookup.{first_that, value_of, trip_at, get_trip, find_trip_by_descriptor}
use Rattle.overlay_feeds.specs.Laws.Head.{begins}
use Rattle.overlay_ids.specs.Promises.Ids.{LastAt}
use Rattle.overlay_ids.specs.Laws.Joined.{part, joined_short, joined_other}
use Rattle.overlay_noted.specs.Promises.Noted.{count_at, FeedNoted, RankNoted}
use Rattle.overlay_seek.specs.Promises.Answers.{Tests}
use Rattle.overlay_seek.specs.Laws.First.{first_append, first_one, first_none, get_text}
use Rattle.overlay_seek.specs.Laws.Answers.{at_place, not_there, reworded, first_found, second_found}
use Rattle.overlay_find.specs.Promises.Finds.{Finds}
use Rattle.overlay_find.specs.Promises.Texts.{descriptor_test}
use Rattle.overlay_find.specs.Laws.Rest.{trip_here}

-- a test that two say alike, and one that is never passed
first_alike : {A : Type 0} (t u : A → Bool) → ((x : A) → t x ≡ u x) → (l : List A) → first_that t l ≡ first_that u l
first_alike t u h [] = first_none t ∙ sym (first_none u)
first_alike t u h (x ∷ l) =
    first_one t x l (u x) (h x) ∙ ap (λ o. cond (u x) (some x) o) (first_alike t u h l)
    ∙ sym (first_one u x l (u x) refl)

first_never : {A : Type 0} (t : A → Bool) → ((x : A) → t x ≡ false) → (l : List A) → first_that t l ≡ none
first_never t h [] = first_none t
first_never t h (x ∷ l) = first_one t x l false (h x) ∙ first_never t h l

-- BY A TRIP'S WHOLE KEY: its feed and ':' in front, and then the rest
same_behind : (f x y : List ℕ) → same (f ++ 58 ∷ x) (f ++ 58 ∷ y) ≡ same x y
same_behind [] x y = refl
same_behind (a ∷ f) x y = rw (eq-eqb a a refl) (same_behind f x y)

far : (f x k : List ℕ) (t : Bool) → same (f ++ 58 ∷ x) k ≡ t → same f (take (length f) k) ≡ false → t ≡ false
far f x k true e n =
    let j = same_true (f ++ 58 ∷ x) k e in
    let i : take (length f) k ≡ f = ap (take (length f)) (sym j) ∙ take_at f (58 ∷ x) (length f) refl in
    false_true (sym n ∙ ap (same f) i ∙ same_refl f)
far f x k false e n = refl

whole : (f k : List ℕ) → length f < length k → get_or k (length f) 0 ≡ 58 → same f (take (length f) k) ≡ true
    → k ≡ f ++ 58 ∷ part k (length f + 1)
whole f k l e n =
    let i = same_true f (take (length f) k) n in
    let d : part k (length f + 1) ≡ drop (length f + 1) k =
    take_all (length k - (length f + 1)) (drop (length f + 1) k) (omega (arith, length-drop (length f + 1) k)) in
    sym (take-append-drop (length f) k)
    ∙ ap (λ x. x ++ drop (length f) k) (sym i)
    ∙ ap (λ x. f ++ x) (drop-cons k (length f) 0 l ∙ ap (λ x. x ∷ drop (suc (length f)) k) e
    ∙ ap (λ n. 58 ∷ drop n k) (sym (add-one (length f))) ∙ ap (◌∷◌ 58) (sym d))

module _ (f key : List ℕ) {s places : List ℕ} {r : ℕ} where
  no_key_fits : ((x : List ℕ) → same (f ++ 58 ∷ x) key ≡ false) → Finds (trip_at f key) s places r None
  unfolding trip_at
  no_key_fits h = record {
    to = λ {e} N. not_there (ap value_of
        (first_never (λ d. same (f ++ 58 ∷ d.0) key) (λ d. h d.0) (trips_of e.1)));
  }

  pub key_short : length key ≤ length f → Finds (trip_at f key) s places r None
  key_short h = no_key_fits (λ x. sym (joined_short {f = f} {r = x} {k = key} h).is)

  module _ (l : length f < length key) where
    pub key_other : (get_or key (length f) 0 ≡ 58 → ⊥) → Finds (trip_at f key) s places r None
    key_other n = no_key_fits (λ x. sym (joined_other {f = f} {r = x} {k = key} l n).is)

    module _ {t : Bool} (i : t ≡ same f (take (length f) key)) where
      pub key_far : t ≡ false → Finds (trip_at f key) s places r None
      key_far n = no_key_fits (λ x. far f x key (same (f ++ 58 ∷ x) key) refl (sym i ∙ n))

      pub key_rest : get_or key (length f) 0 ≡ 58 → t ≡ true → {x : Option ℕ}
          → Finds (get texts (part key (length f + 1))) s places r x → Finds (trip_at f key) s places r x
      unfolding trip_at
      key_rest c n F =
          let k = whole f key l c (sym i ∙ n) in
          let rest = part key (length f + 1) in
          record {
            to = λ {e} N. reworded
                (ap value_of (first_alike (λ d. same (f ++ 58 ∷ d.0) key) (λ d. same d.0 rest)
                (λ d. ap (same (f ++ 58 ∷ d.0)) k ∙ same_behind f d.0 rest) (trips_of e.1))
                ∙ sym (get_text rest (trips_of e.1))) (F.to N);
          }

-- else without what follows the last '@'
module _ (f key : List ℕ) {s places : List ℕ} {p : ℕ} {r : Option ℕ}
    (F : Finds (trip_at f key) s places p r) where
  pub whole_key : {m : ℕ} → r ≡ Some m → Finds (get_trip f key) s places p (Some m)
  unfolding get_trip
  whole_key e = record { to = λ h. first_found _ (F.to h) e }

  module _ {l : Option ℕ} (L : LastAt key l) (i : r ≡ None) where
    pub short_key : {k : ℕ} {t : Option ℕ} → l ≡ Some k → Finds (trip_at f (take k key)) s places p t
        → Finds (get_trip f key) s places p t
    unfolding get_trip
    short_key {k} x G = record {
      to = λ h. second_found (F.to h) i (let y = L.found k x in rw y (G.to h));
    }

    pub no_key : l ≡ None → Finds (get_trip f key) s places p None
    unfolding get_trip
    no_key x = record {
      to = λ {e} h. second_found (F.to h) i
          (let y = L.lost x in not_there (ap (λ o. bind_o o (λ p. trip_at f p.0 (trips_of e.1))) y));
    }

-- BY A LEG'S DESCRIPTOR: the trips before i have another
pub record Passed (t : List ℕ × Trip → Bool) (vs : Trips) (n i : ℕ) : Type 0 where
  pub front : Trips
  pub back : Trips
  pub joined : front ++ back ≡ vs
  pub at : length front ≡ i
  pub size : length vs ≡ n
  pub none_passes : first_that t front ≡ none

pub record Scanning (t : List ℕ × Trip → Bool) (s places : List ℕ) (r n i : ℕ) : Type 0 where
  pub to : {e : List ℕ × Feed} → FeedNoted s places r e → Passed t (trips_of e.1) n i

record Next (t : List ℕ × Trip → Bool) (vs : Trips) (n i : ℕ) : Type 0 where
  front : Trips
  it : List ℕ × Trip
  back : Trips
  joined : front ++ it ∷ back ≡ vs
  at : length front ≡ i
  size : length vs ≡ n
  none_passes : first_that t front ≡ none

next_of : {t : List ℕ × Trip → Bool} {vs : Trips} {n i : ℕ} (front back : Trips) → front ++ back ≡ vs
    → length front ≡ i → length vs ≡ n → first_that t front ≡ none → i < n → Next t vs n i
next_of front [] j a c h l = absurd (omega (arith, ap length j, length-append front []))
next_of front (e ∷ back) j a c h l =
    record { front = front; it = e; back = back; joined = j; at = a; size = c; none_passes = h }

told : {t : List ℕ × Trip → Bool} {s : List ℕ} {p : ℕ} {r b : Bool} → Tests trip_entry t s p r → r ≡ b
    → Tests trip_entry t s p b
told T e = rw e at T

module _ {t : List ℕ × Trip → Bool} {s places : List ℕ} {r n : ℕ} where
  pub scan_start : n ≡ count_at places r → Scanning t s places r n 0
  scan_start c = record {
    to = λ {e} N. record {
      front = [];
      back = trips_of e.1;
      joined = refl;
      at = refl;
      size = sym (c ∙ N.count);
      none_passes = first_none t;
    };
  }

  module _ {i : ℕ} (S : Scanning t s places r n i) where
    pub scan_none : n ≤ i → {e : List ℕ × Feed} → FeedNoted s places r e → first_that t (trips_of e.1) ≡ none
    scan_none l {e} N =
        let P = S.to N in
        ap (first_that t) (sym P.joined) ∙ first_append t P.front P.back
        ∙ ap (λ o. or_else o (first_that t P.back)) P.none_passes
        ∙ go P.back (omega (arith, P.at, P.size, ap length P.joined, length-append P.front P.back))
      where
        go : (l : Trips) → length l ≤ 0 → first_that t l ≡ none
        go [] h = first_none t
        go (e ∷ l) h = absurd (omega arith)

    module _ (l : i < n) where
      pub scan_few : RankNoted s places r → i < most_trips
      scan_few R = omega (arith, (S.to R.noted).size, R.noted.few)

      next : {e : List ℕ × Feed} → FeedNoted s places r e → Next t (trips_of e.1) n i
      next N = let P = S.to N in next_of P.front P.back P.joined P.at P.size P.none_passes l

      module _ {p : ℕ} (w : p ≡ get_or places (2048 * r + i) 0) {b : Bool} (T : Tests trip_entry t s p b) where
        pub scan_on : b ≡ false → Scanning t s places r n (i + 1)
        scan_on e = record {
          to = λ N.
              let X = next N in
              let h = trip_here X.front X.it X.back N X.joined X.at w in
              record {
                front = X.front ++ (X.it ∷ []);
                back = X.back;
                joined = append_assoc X.front (X.it ∷ []) X.back ∙ X.joined;
                at = length-append X.front (X.it ∷ []) ∙ omega (arith, X.at);
                size = X.size;
                none_passes = first_append t X.front (X.it ∷ [])
                    ∙ ap (λ o. or_else o (first_that t (X.it ∷ []))) X.none_passes
                    ∙ first_one t X.it [] false (sym ((told T e).to h.1)) ∙ first_none t;
              };
        }

module _ (f leg : List ℕ) (d : Option ℕ) (date : List ℕ) {s places : List ℕ} {r n i : ℕ}
    (S : Scanning (descriptor_test f leg d date) s places r n i) where
  pub descriptor_hit : {p m : ℕ} {b : Bool} → i < n → p ≡ get_or places (2048 * r + i) 0
      → Tests trip_entry (descriptor_test f leg d date) s p b → b ≡ true → Passes (text 0 any) s p m
      → Finds (find_trip_by_descriptor f leg (given_number d) date) s places r (Some m)
  unfolding find_trip_by_descriptor
  descriptor_hit l w T i P = record {
    to = λ N.
        let X = next S l N in
        let h = trip_here X.front X.it X.back N X.joined X.at w in
        let y = halves h.1 in
        let t = descriptor_test f leg d date in
        at_place (record {
          it = X.it.1;
          end = h.0;
          here = begins (sym ((any_text P).to y.first)) y.second;
          is = ap value_of (ap (first_that t) (sym X.joined) ∙ first_append t X.front (X.it ∷ X.back)
              ∙ ap (λ o. or_else o (first_that t (X.it ∷ X.back))) X.none_passes
              ∙ first_one t X.it X.back true (sym ((told T i).to h.1)));
        });
  }

  pub descriptor_miss : n ≤ i → Finds (find_trip_by_descriptor f leg (given_number d) date) s places r None
  unfolding find_trip_by_descriptor
  descriptor_miss l = record { to = λ N. not_there (ap value_of (scan_none S l N)) }
