-- Law. A label goes in between the others at its rank, or stands there already.
use Rattle.std.specs.Prelude.{ℕ, zero, suc, ◌+◌, ◌-◌, ◌/◌, ◌≤◌, ◌<◌, ◌≡◌, refl, Bool, true, false, ◌&&◌, List, [], ◌∷◌, ◌++◌, ltb, length, get_or, take, drop, set}
use Rattle.std.proofs.Common.{sym, ap, ap₂, ◌∙◌, arith, ltb-true, lt-ltb, le-ltb, get_or-drop}
use Rattle.basics.specs.Laws.Booleans.{both_true}
use Rattle.slices.proofs.Gaps.{gap_length}
use Rattle.decode_slots.proofs.Ranks.{is_more_means, rank_length, rank_behind, rank_before}
use Rattle.decode_slots.proofs.Settling.{is_same_means, put_over, put_into}
use Rattle.basics.specs.Lists.{All}
use Rattle.slices.specs.Lists.{lex_of}
use Rattle.std.specs.declared.cmp.Ordering.{Ordering}
use Rattle.maps.specs.Map.{put, ascending}
use Rattle.maps.specs.Order.{texts}
use Rattle.maps.specs.Promises.Order.{is_same, is_more}
use Rattle.maps.proofs.Laws.Map.{put_ascending}
use Rattle.maps.proofs.Laws.Order.{texts_order, lex_same}
use Rattle.decode_slots.specs.Index.{Place}
use Rattle.decode_slots.specs.Places.{bytes_in}
use Rattle.slices.specs.Promises.Inserted.{inserted}
use Rattle.decode_slots.specs.Promises.Index.{rank_of}
use Rattle.journey_labels.specs.Promises.Labels.{Inside, places_in, Labels, labels_at, labels, label_at}
use Rattle.journey_labels.specs.Promises.Labels.{most_labels, OrderAt, Ranks, StandsAt, SoundLabels, LabelNoted}

abbrev nowhere : Place
nowhere = (0, 0)

abbrev pub nothing : List ℕ × Unit {0}
nothing = ([], tt)

-- what stands at a rank
pub places_at : (n : ℕ) (f t : List ℕ) (i : ℕ) → i < n
    → get_or (places_in n f t) i nowhere ≡ (get_or f i 0, get_or t i 0)
places_at zero f t i h = absurd (omega arith)
places_at (suc n) f t zero h = refl
places_at (suc n) f t (suc i) h =
    let e : 1 + i ≡ suc i = omega arith in
    places_at n (drop 1 f) (drop 1 t) i (omega arith) ∙ rw (get_or-drop 1 f i 0, get_or-drop 1 t i 0, e) refl

pub places_length : (n : ℕ) (f t : List ℕ) → length (places_in n f t) ≡ n
places_length zero f t = refl
places_length (suc n) f t = ap suc (places_length n (drop 1 f) (drop 1 t))

labels_at_holds : (o : List ℕ) (l : List Place) (i : ℕ) → i < length l
    → get_or (labels_at o l) i nothing ≡ (bytes_in o (get_or l i nowhere), tt)
labels_at_holds o [] i h = absurd (omega arith)
labels_at_holds o (p ∷ l) zero h = refl
labels_at_holds o (p ∷ l) (suc i) h = labels_at_holds o l i (omega arith)

labels_length : (o : List ℕ) (l : List Place) → length (labels_at o l) ≡ length l
labels_length o [] = refl
labels_length o (p ∷ l) = ap suc (labels_length o l)

pub count_of : (o f t : List ℕ) (n : ℕ) → length (labels o f t n) ≡ n
count_of o f t n = labels_length o (places_in n f t) ∙ places_length n f t

pub label_at_holds : (o f t : List ℕ) (n i : ℕ) → i < n → get_or (labels o f t n) i nothing ≡ (label_at o f t i, tt)
label_at_holds o f t n i h =
    labels_at_holds o (places_in n f t) i (omega (arith, places_length n f t))
    ∙ ap (λ p. (bytes_in o p, tt)) (places_at n f t i h)

-- ---- the rank of a label, by halving

module _ {o f t : List ℕ} {n : ℕ} (S : SoundLabels o f t n) where
  all_inside : (l : List Place) (i : ℕ) → All (Inside o) l → i < length l → Inside o (get_or l i nowhere)
  all_inside [] i a h = absurd (omega arith)
  all_inside (p ∷ l) zero a h = a.0
  all_inside (p ∷ l) (suc i) a h = all_inside l i a.1 (omega arith)

  pub inside_at : (i : ℕ) → i < n → Inside o (get_or f i 0, get_or t i 0)
  inside_at i h =
      rw (places_at n f t i h) at (all_inside (places_in n f t) i S.inside (omega (arith, places_length n f t)))

  pub at_from : {i : ℕ} → i < n → i < length f
  at_from h = omega (arith, S.long_from, S.counted)

  pub at_to : {i : ℕ} → i < n → i < length t
  at_to h = omega (arith, S.long_to, S.counted)

  -- there is room for one more
  pub room_from : n ≤ most_labels → n < length f
  room_from h = omega (arith, S.long_from)

  pub room_to : n ≤ most_labels → n < length t
  room_to h = omega (arith, S.long_to)

  module _ (k : List ℕ) where
    abbrev rank : ℕ
    rank = rank_of texts k (labels o f t n)

    pub rank_most : rank ≤ n
    rank_most = omega (arith, rank_length texts_order nothing k (labels o f t n), count_of o f t n)

    -- a step of the search
    pub rank_up : (i : ℕ) → i < n → is_more (lex_of k (label_at o f t i)) ≡ true → i < rank
    rank_up i h m =
        rank_behind texts_order nothing k (labels o f t n) i S.ascends (omega (arith, count_of o f t n))
        (ap (λ x. lex_of k x.0) (label_at_holds o f t n i h) ∙ is_more_means (lex_of k (label_at o f t i)) m)

    pub rank_down : (i : ℕ) → i < n → is_more (lex_of k (label_at o f t i)) ≡ false → rank ≤ i
    rank_down i h m =
        rank_before texts_order nothing k (labels o f t n) i (omega (arith, count_of o f t n))
        (ap (λ x. is_more (lex_of k x.0)) (label_at_holds o f t n i h) ∙ m)

-- the rank of a label lies from lo to hi
pub record Between (o f t : List ℕ) (n : ℕ) (p : Place) (lo hi : ℕ) : Type 0 where
  pub low : lo ≤ rank_of texts (bytes_in o p) (labels o f t n)
  pub high : rank_of texts (bytes_in o p) (labels o f t n) ≤ hi
  pub within : hi ≤ n

pub ordered : {o f t : List ℕ} {p : Place} {a e i : ℕ} {r : Ordering} → r ≡ lex_of (bytes_in o p) (bytes_in o (a, e))
    → a ≡ get_or f i 0 → e ≡ get_or t i 0 → OrderAt o f t i p r
ordered {o} {p} c a e = record { is = c ∙ ap₂ (λ a e. lex_of (bytes_in o p) (bytes_in o (a, e))) a e }

module _ {o f t : List ℕ} {n : ℕ} (S : SoundLabels o f t n) {p : Place} where
  pub between_all : Between o f t n p 0 n
  between_all = record { low = omega arith; high = rank_most S (bytes_in o p); within = omega arith }

  module _ {lo hi : ℕ} (B : Between o f t n p lo hi) where
    abbrev mid : ℕ
    mid = lo + (hi - lo) / 2

    module _ (h : lo < hi) where
      pub mid_inside : Inside o (get_or f mid 0, get_or t mid 0)
      mid_inside = inside_at S mid (omega (arith, B.within))

      pub mid_from : mid < length f
      mid_from = omega (arith, B.within, S.long_from, S.counted)

      pub mid_to : mid < length t
      mid_to = omega (arith, B.within, S.long_to, S.counted)

      module _ {b : Bool} {r : Ordering} (e : b ≡ is_more r) (d : OrderAt o f t mid p r) where
        pub between_up : b ≡ true → Between o f t n p (mid + 1) hi
        between_up i = record {
          low = omega (
            arith,
            rank_up S (bytes_in o p) mid (omega (arith, B.within)) (ap is_more (sym d.is) ∙ sym e ∙ i),
          );
          high = B.high;
          within = B.within;
        }

        pub between_down : b ≡ false → Between o f t n p lo mid
        between_down i = record {
          low = B.low;
          high = rank_down S (bytes_in o p) mid (omega (arith, B.within)) (ap is_more (sym d.is) ∙ sym e ∙ i);
          within = omega (arith, B.within);
        }

    pub between_one : hi ≤ lo → Ranks o f t n p lo
    between_one h = record { is = omega (arith, B.low, B.high) }

  -- what stands at rank r
  pub stands_beyond : {r : ℕ} → n ≤ r → StandsAt o f t n r p false
  stands_beyond {r} h = record { is = rw (le-ltb r n h) refl }

  pub stands_so : {r : ℕ} {b : Bool} {x : Ordering} → r < n → b ≡ is_same x → OrderAt o f t r p x
      → StandsAt o f t n r p b
  stands_so {r} h e d = record { is = rw (lt-ltb r n h) (e ∙ ap is_same d.is) }

pub rank_few : {o f t : List ℕ} {n : ℕ} {p : Place} {r : ℕ} → SoundLabels o f t n → Ranks o f t n p r → r ≤ n
rank_few {o} {p} S R = omega (arith, R.is, rank_most S (bytes_in o p))

-- ---- in between the others

taken_on : (n : ℕ) (f t x y : List ℕ) → n ≤ length f → n ≤ length t
    → places_in n (take n f ++ x) (take n t ++ y) ≡ places_in n f t
taken_on zero f t x y h g = refl
taken_on (suc n) [] t x y h g = absurd (omega arith)
taken_on (suc n) (a ∷ f) [] x y h g = absurd (omega arith)
taken_on (suc n) (a ∷ f) (b ∷ t) x y h g = ap (λ l. (a, b) ∷ l) (taken_on n f t x y (omega arith) (omega arith))

inserted_on : (a v : ℕ) (f : List ℕ) (r n : ℕ) → inserted (a ∷ f) (suc r) (suc n) v ≡ a ∷ inserted f r n v
inserted_on a v f r n =
    let d : suc n - suc r ≡ n - r = omega arith in
    let e : suc n + 1 ≡ suc (n + 1) = omega arith in
    rw (d, e) refl

pub places_into : (r n : ℕ) (f t : List ℕ) (p : Place) → r ≤ n → n < length f → n < length t
    → places_in (n + 1) (inserted f r n p.0) (inserted t r n p.1)
    ≡ take r (places_in n f t) ++ p ∷ drop r (places_in n f t)
places_into zero n f t p h g k =
    let e : n + 1 ≡ suc n = omega arith in
    let d : n - 0 ≡ n = omega arith in
    rw (e, d) (ap (λ l. p ∷ l) (taken_on n f t (drop (suc n) f) (drop (suc n) t) (omega arith) (omega arith)))
places_into (suc r) zero f t p h g k = absurd (omega arith)
places_into (suc r) (suc n) [] t p h g k = absurd (omega arith)
places_into (suc r) (suc n) (a ∷ f) [] p h g k = absurd (omega arith)
places_into (suc r) (suc n) (a ∷ f) (b ∷ t) p h g k =
    let e : suc n + 1 ≡ suc (n + 1) = omega arith in
    ap (λ m. places_in m (inserted (a ∷ f) (suc r) (suc n) p.0) (inserted (b ∷ t) (suc r) (suc n) p.1)) e
    ∙ ap (λ x. places_in (suc (n + 1)) x (inserted (b ∷ t) (suc r) (suc n) p.1)) (inserted_on a p.0 f r n)
    ∙ ap (λ y. places_in (suc (n + 1)) (a ∷ inserted f r n p.0) y) (inserted_on b p.1 t r n)
    ∙ ap (λ l. (a, b) ∷ l) (places_into r n f t p (omega arith) (omega arith) (omega arith))

labels_into : (o : List ℕ) (r : ℕ) (l : List Place) (p : Place)
    → labels_at o (take r l ++ p ∷ drop r l) ≡ take r (labels_at o l) ++ (bytes_in o p, tt) ∷ drop r (labels_at o l)
labels_into o zero l p = refl
labels_into o (suc r) [] p = refl
labels_into o (suc r) (q ∷ l) p = ap (λ x. (bytes_in o q, tt) ∷ x) (labels_into o r l p)

all_into : (P : Place → Type 0) (r : ℕ) (l : List Place) (p : Place) → All P l → P p → All P (take r l ++ p ∷ drop r l)
all_into P zero l p a h = (h, a)
all_into P (suc r) [] p a h = (h, tt)
all_into P (suc r) (q ∷ l) p a h = (a.0, all_into P r l p a.1 h)

set_itself : (l : Labels) (i : ℕ) (v : List ℕ × Unit {0}) → i < length l → get_or l i nothing ≡ v → set l i v ≡ l
set_itself [] i v h e = absurd (omega arith)
set_itself (x ∷ l) zero v h e = ap (λ x. x ∷ l) (sym e)
set_itself (x ∷ l) (suc i) v h e = ap (λ m. x ∷ m) (set_itself l i v (omega arith) e)

module _ {o f t : List ℕ} {n : ℕ} (S : SoundLabels o f t n) {p : Place} {r : ℕ} {b : Bool}
    (R : Ranks o f t n p r) (D : StandsAt o f t n r p b) where
  abbrev e : r ≡ rank_of texts (bytes_in o p) (labels o f t n)
  e = R.is

  abbrev d : b ≡ (ltb r n && is_same (lex_of (bytes_in o p) (label_at o f t r)))
  d = D.is

  abbrev key : List ℕ
  key = bytes_in o p

  -- it stands there already
  pub noted_before : b ≡ true → LabelNoted o f t n p f t n
  noted_before i =
      let c = both_true (ltb r n) (is_same (lex_of key (label_at o f t r))) (sym d ∙ i) in
      let h : r < n = ltb-true r n c.0 in
      let w : is_same (lex_of key (get_or (labels o f t n) r nothing).0) ≡ true =
      ap (λ x. is_same (lex_of key x.0)) (label_at_holds o f t n r h) ∙ c.1 in
      let same_key : key ≡ label_at o f t r =
      lex_same key (label_at o f t r) (is_same_means (lex_of key (label_at o f t r)) c.1) in
      let l : r < length (labels o f t n) = omega (arith, count_of o f t n) in
      let q : put texts key tt (labels o f t n) ≡ set (labels o f t n) r (key, tt) =
      rw (← e) at (put_over texts nothing key tt (labels o f t n) (rw e at l) (rw e at w)) in
      record {
        map = sym (q ∙ set_itself (labels o f t n) r (key, tt) l
            (label_at_holds o f t n r h ∙ ap {B = List ℕ × Unit {0}} (λ x. (x, tt)) (sym same_key)));
        sound = S;
      }

  -- it goes in at its rank
  module _ {f' t' : List ℕ} (few : n ≤ most_labels) (g : f' ≡ inserted f r n p.0)
      (k : t' ≡ inserted t r n p.1) where
    new_places : places_in (n + 1) f' t' ≡ take r (places_in n f t) ++ p ∷ drop r (places_in n f t)
    new_places =
        rw (g, k)
        (places_into r n f t p (omega (arith, e, rank_most S key)) (omega (arith, S.long_from))
        (omega (arith, S.long_to)))

    other : b ≡ false → r < length (labels o f t n) → is_same (lex_of key (get_or (labels o f t n) r nothing).0) ≡ false
    other i l =
        let h : r < n = omega (arith, count_of o f t n) in
        ap (λ x. is_same (lex_of key x.0)) (label_at_holds o f t n r h)
        ∙ rw (lt-ltb r n h) at (sym d ∙ i)

    pub noted_now : b ≡ false → Inside o p → LabelNoted o f t n p f' t' (n + 1)
    noted_now i h =
        let q : put texts key tt (labels o f t n) ≡ take r (labels o f t n) ++ (key, tt) ∷ drop r (labels o f t n) =
        rw (← e) at (put_into texts nothing key tt (labels o f t n) (rw e at (other i))) in
        let m : labels o f' t' (n + 1) ≡ put texts key tt (labels o f t n) =
        ap (labels_at o) new_places ∙ labels_into o r (places_in n f t) p ∙ sym q in
        record {
          map = m;
          sound = record {
            counted = omega arith;
            long_from = ap length g ∙ gap_length f r n p.0 (omega (arith, e, rank_most S key))
                (omega (arith, S.long_from)) ∙ S.long_from;
            long_to = ap length k ∙ gap_length t r n p.1 (omega (arith, e, rank_most S key))
                (omega (arith, S.long_to)) ∙ S.long_to;
            inside = rw new_places (all_into (Inside o) r (places_in n f t) p S.inside h);
            ascends = ap (ascending texts) m ∙ put_ascending texts_order key tt (labels o f t n) S.ascends;
          };
        }
