-- Law. The headers of a finished card: what holds of every alert's label holds of them, and over a valid state they
-- are at most 1,024, so that question 7 asks nothing more of a finished card's headers.
use Rattle.std.specs.Prelude.{◌≡◌, refl, Bool, true, false, cond, ℕ, suc, ◌+◌, ◌*◌, ◌≤◌, length}
use Rattle.std.proofs.Common.{sym, ap, ◌∙◌, arith, suc-mul, length-append}
use Rattle.std.proofs.Math.Bool.{not}
use mathlib.Core.List.{List, [], ◌∷◌, ◌++◌, map}
use Rattle.std.proofs.Math.Option
use Rattle.std.proofs.Math.Option.{Option, none, some}
use Rattle.std.specs.declared.cmp.Ordering.{Ordering}
use Rattle.std.specs.declared.cmp.Ordering.TheVariants.{Less, Equal, Greater}
use Rattle.basics.specs.Lists.{All, filter, is_empty, concat_map, all}
use Rattle.basics.specs.Laws.Options.{none_some}
use Rattle.formats.specs.Format.{list, optional, ◌&◌}
use Rattle.formats_judge.specs.Judged.{ok}
use Rattle.maps.specs.Map.{is_less, by_order, get, put, puts, above, ascending}
use Rattle.maps.specs.Order.{texts}
use Rattle.maps.proofs.Laws.Order.{texts_order}
use Rattle.maps.proofs.Laws.Map.{is_less_means, get_put, puts_ascending, rest_ascending}
use Rattle.basics.specs.Laws.Booleans.{both_true}
use Rattle.alerts.specs.Alert.{Alert, alert}
use Rattle.alerts.specs.Label.{label}
use Rattle.overlay.specs.State.{Feed, State, timestamp, vehicle_entry, feed_entry, overlay, timestamp_of, trips_of}
use Rattle.overlay.specs.State.{vehicles_of, alerts_of, feeds_of}
use Rattle.decode.specs.Trip.{trip_entry}
use Rattle.overlay.proofs.Laws.Within.{few, counted}
use Rattle.overlay.proofs.Laws.EveryEntry.{each_map, each_both, each_puts, get_each, lower}
use Rattle.decode.specs.Laws.Fine.{Given}
use Rattle.overlay.specs.Records.{Records, Feeds, records_of, shown}
use Rattle.overlay.specs.Lookup.{feed_of}
use Rattle.journey.specs.Card.{Transit}
use Rattle.journey.specs.Enrich.{alerts_in, applies, alerts_of_transit, keys, labels_of, headers_of}

-- a text of a set, which is a map to nothing
abbrev pub Entry : Type 0
Entry = List ℕ × Unit {0}

-- ---- lists

each_filter : {A : Type 0} (P : A → Type 0) (p : A → Bool) (l : List A) → All P l → All P (filter p l)
each_filter P p [] h = tt
each_filter P p (a ∷ l) h = go (p a) (each_filter P p l h.1)
  where
    go : (b : Bool) → All P (filter p l) → All P (cond b (a ∷ filter p l) (filter p l))
    go true x = (h.0, x)
    go false x = x

each_append : {A : Type 0} (P : A → Type 0) (x y : List A) → All P x → All P y → All P (x ++ y)
each_append P [] y a b = b
each_append P (c ∷ x) y a b = (a.0, each_append P x y a.1 b)

each_mapped : {A B : Type 0} (g : A → B) (P : B → Type 0) (l : List A) → All (λ x. P (g x)) l → All P (map g l)
each_mapped g P [] h = tt
each_mapped g P (x ∷ l) h = (h.0, each_mapped g P l h.1)

keys_each : (P : List ℕ → Type 0) (l : List Entry) → All (λ e. P e.0) l → All P (keys l)
keys_each P [] h = tt
keys_each P (e ∷ l) h = (h.0, keys_each P l h.1)

-- a set of texts
abbrev pub entry : List ℕ → Entry
entry x = (x, tt)

abbrev pub set : List (List ℕ) → List Entry
set l = puts texts (map entry l) []

-- ---- what holds of every label holds of every header

module _ (B : Feeds) (P : List ℕ → Type 0)
    (h : (f : List ℕ) → Given (λ R. All (λ a. P (label a)) R.alerts) (B f)) where
  alerts_each : (t : Transit) → All (λ a. P (label a)) (alerts_of_transit B t)
  unfolding alerts_of_transit
  alerts_each t =
      each_filter (λ a. P (label a)) (applies t) (alerts_in (B (feed_of t.trip)))
      (go (B (feed_of t.trip)) (h (feed_of t.trip)))
    where
      go : (o : Option Records) → Given (λ R. All (λ a. P (label a)) R.alerts) o
          → All (λ a. P (label a)) (alerts_in o)
      go none x = tt
      go (some R) x = x

  legs_each : (ts : List Transit) → All P (concat_map (λ t. map label (alerts_of_transit B t)) ts)
  legs_each [] = tt
  legs_each (t ∷ ts) =
      each_append P (map label (alerts_of_transit B t)) _ (each_mapped label P (alerts_of_transit B t) (alerts_each t))
      (legs_each ts)

  labels_each : (ts : List Transit) → All (λ e. P e.0) (set (labels_of B ts))
  unfolding labels_of
  labels_each ts =
      let every = concat_map (λ t. map label (alerts_of_transit B t)) ts in
      let l = filter (λ x. not (is_empty x)) every in
      each_puts texts (λ e. P e.0) (map entry l) []
      (each_mapped entry (λ e. P e.0) l (each_filter P (λ x. not (is_empty x)) every (legs_each ts))) tt

  pub headers_each : (ts : List Transit) → All P (headers_of B ts)
  unfolding headers_of
  headers_each ts = keys_each P (set (labels_of B ts)) (labels_each ts)

-- ---- a set has no more members than one that has them all

abbrev Has : List Entry → List ℕ → Type 0
Has m k = get texts k m ≡ some tt

has_put : (k : List ℕ) (m : List Entry) → Has (put texts k tt m) k
has_put k m = get_put texts_order k k tt m
    ∙ ap (λ o. by_order o (get texts k m) (some tt) (get texts k m)) (texts_order.itself k)

has_kept : (j k : List ℕ) (m : List Entry) → Has m j → Has (put texts k tt m) j
has_kept j k m h = get_put texts_order j k tt m ∙ go (texts.compare j k)
  where
    go : (o : Ordering) → by_order o (get texts j m) (some tt) (get texts j m) ≡ some tt
    go Less = h
    go Equal = refl
    go Greater = h

has_old : (l m : List Entry) (j : List ℕ) → Has m j → Has (puts texts l m) j
has_old [] m j h = h
has_old (e ∷ l) m j h = has_old l (put texts e.0 tt m) j (has_kept j e.0 m h)

has_new : (l : List (List ℕ)) (m : List Entry) → All (Has (puts texts (map entry l) m)) l
has_new [] m = tt
has_new (x ∷ l) m = (has_old (map entry l) (put texts x tt m) x (has_put x m), has_new l (put texts x tt m))

put_length : (k : List ℕ) (m : List Entry) → length (put texts k tt m) ≤ suc (length m)
put_length k [] = omega arith
put_length k (e ∷ m) = go (texts.compare k e.0) (put_length k m)
  where
    go : (o : Ordering) → length (put texts k tt m) ≤ suc (length m)
        → length (by_order o ((k, tt) ∷ e ∷ m) ((k, tt) ∷ m) (e ∷ put texts k tt m)) ≤ suc (suc (length m))
    go Less h = omega arith
    go Equal h = omega arith
    go Greater h = omega arith

puts_length : (l : List (List ℕ)) (m : List Entry) → length (puts texts (map entry l) m) ≤ length l + length m
puts_length [] m = omega arith
puts_length (x ∷ l) m = omega (arith, put_length x m, puts_length l (put texts x tt m))

above_each : (k : List ℕ) (m : List Entry) → above texts k m ≡ true → All (λ e. texts.compare k e.0 ≡ Less) m
above_each k [] h = tt
above_each k (e ∷ m) h =
    let q = both_true (is_less (texts.compare k e.0)) (above texts e.0 m) h in
    (is_less_means _ q.0, above_each k m (lower k e m q.0 q.1))

get_above : (k : List ℕ) (m : List Entry) → All (λ e. texts.compare k e.0 ≡ Less) m → get texts k m ≡ none
get_above k [] h = refl
get_above k (e ∷ m) h = rw h.0 (get_above k m h.1)

-- past x, of keys behind it
has_past : (x : Entry) (m : List Entry) (k : List ℕ) → texts.compare k x.0 ≡ Greater → Has (x ∷ m) k → Has m k
has_past x m k c h = rw c at h

all_past : (x : Entry) (m l : List Entry) → All (λ e. texts.compare e.0 x.0 ≡ Greater) l
    → All (λ e. Has (x ∷ m) e.0) l → All (λ e. Has m e.0) l
all_past x m l c h = each_both (λ e p q. has_past x m e.0 p q) l c h

sub_length : (M m : List Entry) → ascending texts M ≡ true → ascending texts m ≡ true → All (λ e. Has M e.0) m
    → length m ≤ length M
sub_length [] [] a b h = omega arith
sub_length [] (y ∷ m) a b h = none_some h.0
sub_length (x ∷ M) [] a b h = omega arith
sub_length (x ∷ M) (y ∷ m) a b h =
    go (texts.compare y.0 x.0) refl
    (sub_length M m (rest_ascending texts_order x M a) (rest_ascending texts_order y m b))
    (sub_length M (y ∷ m) (rest_ascending texts_order x M a) b)
  where
    later : All (λ e. texts.compare y.0 e.0 ≡ Less) m
    later = above_each y.0 m b

    go : (o : Ordering) → texts.compare y.0 x.0 ≡ o → (All (λ e. Has M e.0) m → length m ≤ length M)
        → (All (λ e. Has M e.0) (y ∷ m) → suc (length m) ≤ length M)
        → suc (length m) ≤ suc (length M)
    go Less c f g =
        let z : get texts y.0 M ≡ none =
        get_above y.0 M (above_each y.0 M (lower y.0 x M (ap is_less c) a)) in
        none_some (sym z ∙ rw c at h.0)
    go Equal c f g =
        let s : y.0 ≡ x.0 = texts_order.same y.0 x.0 c in
        let p : All (λ e. texts.compare e.0 x.0 ≡ Greater) m =
        each_map {A = Entry} {P = λ e. texts.compare y.0 e.0 ≡ Less}
        (λ e q. rw s at (texts_order.more y.0 e.0 q)) m later in
        omega (arith, f (all_past x M m p h.1))
    go Greater c f g =
        let p : All (λ e. texts.compare e.0 x.0 ≡ Greater) m =
        each_map {A = Entry} {P = λ e. texts.compare y.0 e.0 ≡ Less}
        (λ e q. texts_order.more x.0 e.0
        (texts_order.through x.0 y.0 e.0 (texts_order.less y.0 x.0 c) q)) m later in
        omega (arith, g (has_past x M y.0 c h.0, all_past x M m p h.1))

keys_length : (l : List Entry) → length (keys l) ≡ length l
keys_length [] = refl
keys_length (e ∷ l) = ap suc (keys_length l)

-- ---- a valid state's labels

alerts_few : (e : List ℕ × Feed) → ok 7 feed_entry e ≡ true → length (alerts_of e.1) ≤ 256
alerts_few e h =
    let F = e.1 in
    let a = both_true (ok 7 (optional timestamp) (timestamp_of F))
    (ok 7 (list 2048 trip_entry & list 1024 vehicle_entry & list 256 alert) F.1.1) h in
    let b = both_true (ok 7 (list 2048 trip_entry) (trips_of F))
    (ok 7 (list 1024 vehicle_entry & list 256 alert) F.1.1.1) a.1 in
    few 256 alert (alerts_of F)
    (both_true (ok 7 (list 1024 vehicle_entry) (vehicles_of F)) (ok 7 (list 256 alert) (alerts_of F)) b.1).1

abbrev every_label : State → List (List ℕ)
every_label s = concat_map (λ e. map label (alerts_of e.1)) (feeds_of s)

feed_labels : (P : List ℕ → Type 0) (l : List (List ℕ × Feed)) → All P (concat_map (λ e. map label (alerts_of e.1)) l)
    → All (λ e. All (λ a. P (label a)) (alerts_of e.1)) l
feed_labels P [] h = tt
feed_labels P (e ∷ l) h = (
  unmapped (alerts_of e.1) (front (map label (alerts_of e.1)) h),
  feed_labels P l (back (map label (alerts_of e.1)) h),
)
  where
    rest : List (List ℕ)
    rest = concat_map (λ e. map label (alerts_of e.1)) l

    front : (x : List (List ℕ)) → All P (x ++ rest) → All P x
    front [] h = tt
    front (c ∷ x) h = (h.0, front x h.1)

    back : (x : List (List ℕ)) → All P (x ++ rest) → All P rest
    back [] h = h
    back (c ∷ x) h = back x h.1

    unmapped : (x : List Alert) → All P (map label x) → All (λ a. P (label a)) x
    unmapped [] h = tt
    unmapped (a ∷ x) h = (h.0, unmapped x h.1)

shown_labels : (s : State) (P : List ℕ → Type 0) → All P (every_label s) → (f : List ℕ)
    → Given (λ R. All (λ a. P (label a)) R.alerts) (shown s f)
unfolding shown
shown_labels s P h f = go (get texts f (feeds_of s)) refl
  where
    go : (o : Option Feed) → get texts f (feeds_of s) ≡ o
        → Given (λ R. All (λ a. P (label a)) R.alerts) (Option.map records_of o)
    go none e = tt
    go (some F) e =
        get_each texts_order (λ e. All (λ a. P (label a)) (alerts_of e.1)) f F (feeds_of s)
        (feed_labels P (feeds_of s) h) e

pub map_length : {A B : Type 0} (g : A → B) (l : List A) → length (map g l) ≡ length l
map_length g [] = refl
map_length g (x ∷ l) = ap suc (map_length g l)

labels_length : (l : List (List ℕ × Feed)) → all (ok 7 feed_entry) l ≡ true
    → length (concat_map (λ e. map label (alerts_of e.1)) l) ≤ length l * 256
labels_length [] h = omega arith
labels_length (e ∷ l) h =
    let q = both_true (ok 7 feed_entry e) (all (ok 7 feed_entry) l) h in
    rw (length-append, suc-mul)
    (omega (arith, map_length label (alerts_of e.1), alerts_few e q.0, labels_length l q.1))

-- THE HEADERS of a card finished over a state within question 7 are at most 1,024
pub headers_few : (s : State) → ok 7 overlay s ≡ true → (ts : List Transit) → length (headers_of (shown s) ts) ≤ 1024
unfolding headers_of
headers_few s h ts =
    let every = every_label s in
    let l = labels_of (shown s) ts in
    let has = labels_each (shown s) (Has (set every)) (shown_labels s (Has (set every)) (has_new every [])) ts in
    omega (
      arith,
      keys_length (set l),
      sub_length (set every) (set l) (puts_ascending texts_order (map entry every) [] refl)
          (puts_ascending texts_order (map entry l) [] refl) has,
      puts_length every [],
      labels_length (feeds_of s) (counted 4 feed_entry (feeds_of s) h),
      few 4 feed_entry (feeds_of s) h,
    )
