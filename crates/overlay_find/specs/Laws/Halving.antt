-- Law. A search by halving in a map: what is sought is what is sought in the part that is left.
use Rattle.std.specs.Prelude.{◌≡◌, refl, true, List, [], ◌∷◌, ◌++◌, ℕ, zero, suc, ◌+◌, ◌-◌, ◌≤◌, ◌<◌, length}
use Rattle.std.proofs.Common.{sym, ap, ◌∙◌, append_assoc, append-nil, arith, length-append}
use Rattle.std.proofs.Math.Option.{Option, none, some}
use Rattle.basics.specs.Lists.{All}
use Rattle.basics.specs.Options.{or_else}
use Rattle.basics.specs.Laws.Booleans.{both_true}
use Rattle.std.specs.declared.cmp.Ordering.{Ordering}
use Rattle.std.specs.declared.cmp.Ordering.TheVariants.{Less, Equal, Greater}
use Rattle.maps.specs.Map.{Ordered, is_less, by_order, get, above, ascending}
use Rattle.maps.proofs.Laws.Map.{Lawful, is_less_means, rest_ascending}
use Rattle.overlay_feeds.specs.Laws.Map.{get_past, back_ascending, get_below}

-- a list at one of its places
record Apart {A : Type 0} (l : List A) (i : ℕ) : Type 0 where
  front : List A
  it : A
  back : List A
  joined : front ++ it ∷ back ≡ l
  count : length front ≡ i

apart : {A : Type 0} (l : List A) (i : ℕ) → i < length l → Apart l i
apart [] i h = absurd (omega arith)
apart (a ∷ l) zero h = record { front = []; it = a; back = l; joined = refl; count = refl }
apart (a ∷ l) (suc i) h =
    let P = apart l i (omega arith) in
    record {
      front = a ∷ P.front;
      it = P.it;
      back = P.back;
      joined = ap (◌∷◌ a) P.joined;
      count = ap suc P.count;
    }

module _ {K : Type 0} (O : Ordered K) (W : Lawful O) {A : Type 0} (k : K) where
  -- the keys in front of an entry come before it
  under : (j : K) (xs : List (K × A)) (e : K × A) (ys : List (K × A)) → above O j (xs ++ e ∷ ys) ≡ true
      → O.compare j e.0 ≡ Less
  under j [] e ys h = is_less_means (O.compare j e.0) (both_true (is_less (O.compare j e.0)) (above O e.0 ys) h).0
  under j (x ∷ xs) e ys h =
      let b = both_true (is_less (O.compare j x.0)) (above O x.0 (xs ++ e ∷ ys)) h in
      W.through j x.0 e.0 (is_less_means (O.compare j x.0) b.0) (under x.0 xs e ys b.1)

  before : (xs : List (K × A)) (e : K × A) (ys : List (K × A)) → ascending O (xs ++ e ∷ ys) ≡ true
      → ((j : K) → O.compare j e.0 ≡ Less → O.compare k j ≡ Greater) → All (λ x. O.compare k x.0 ≡ Greater) xs
  before [] e ys h g = tt
  before (x ∷ xs) e ys h g =
      (g x.0 (under x.0 xs e ys h), before xs e ys (rest_ascending W x (xs ++ e ∷ ys) h) g)

  front_ascending : (xs ys : List (K × A)) → ascending O (xs ++ ys) ≡ true → ascending O xs ≡ true
  front_ascending [] ys h = refl
  front_ascending (x ∷ xs) ys h = front_above x.0 xs ys h
    where
      front_above : (j : K) (xs ys : List (K × A)) → above O j (xs ++ ys) ≡ true → above O j xs ≡ true
      front_above j [] ys h = refl
      front_above j (x ∷ xs) ys h =
          let b = both_true (is_less (O.compare j x.0)) (above O x.0 (xs ++ ys)) h in
          rw b.0 (front_above x.0 xs ys b.1)

  get_append : (xs ys : List (K × A)) → get O k (xs ++ ys) ≡ or_else (get O k xs) (get O k ys)
  get_append [] ys = refl
  get_append (x ∷ xs) ys = go (O.compare k x.0) (get_append xs ys)
    where
      go : (o : Ordering) → get O k (xs ++ ys) ≡ or_else (get O k xs) (get O k ys)
          → by_order o (get O k (xs ++ ys)) (some x.1) (get O k (xs ++ ys))
          ≡ or_else (by_order o (get O k xs) (some x.1) (get O k xs)) (get O k ys)
      go Less i = i
      go Equal i = refl
      go Greater i = i

  or_none : (o : Option A) → or_else o none ≡ o
  or_none none = refl
  or_none (some a) = refl

  -- AN ENTRY in the middle of a map tells where k's is
  module _ (xs : List (K × A)) (e : K × A) (ys : List (K × A)) (h : ascending O (xs ++ e ∷ ys) ≡ true) where
    get_less : O.compare k e.0 ≡ Less → get O k (xs ++ e ∷ ys) ≡ get O k xs
    get_less l =
        get_append xs (e ∷ ys)
        ∙ ap (or_else (get O k xs)) (get_below O k W e ys l (back_ascending O k W xs (e ∷ ys) h)) ∙ or_none (get O k xs)

    get_more : O.compare k e.0 ≡ Greater → get O k (xs ++ e ∷ ys) ≡ get O k ys
    get_more m =
        get_past O k xs (e ∷ ys)
        (before xs e ys h (λ j l. W.more j k (W.through j e.0 k l (W.less k e.0 m)))) ∙ rw m refl

    get_same : O.compare k e.0 ≡ Equal → get O k (xs ++ e ∷ ys) ≡ some e.1
    get_same m =
        let i = W.same k e.0 m in
        get_past O k xs (e ∷ ys) (before xs e ys h (λ j l. rw i (W.more j e.0 l))) ∙ rw m refl

  -- from lo up to hi is left
  pub record Halving (m : List (K × A)) (lo hi : ℕ) : Type 0 where
    pub front : List (K × A)
    pub mids : List (K × A)
    pub back : List (K × A)
    pub joined : front ++ (mids ++ back) ≡ m
    pub low : length front ≡ lo
    pub high : lo + length mids ≡ hi
    pub up : ascending O mids ≡ true
    pub is : get O k m ≡ get O k mids

  pub halving_start : (m : List (K × A)) → ascending O m ≡ true → Halving m 0 (length m)
  halving_start m h = record {
    front = [];
    mids = m;
    back = [];
    joined = append-nil m;
    low = refl;
    high = omega arith;
    up = h;
    is = refl;
  }

  pub halving_within : {m : List (K × A)} {lo hi : ℕ} → Halving m lo hi → hi ≤ length m
  halving_within {m} H =
      omega (
        arith,
        H.low,
        H.high,
        ap length H.joined,
        length-append H.front (H.mids ++ H.back),
        length-append H.mids H.back,
      )

  pub halving_none : {m : List (K × A)} {lo hi : ℕ} → Halving m lo hi → hi ≤ lo → get O k m ≡ none
  halving_none {m} {lo} {hi} H h = H.is ∙ go H.mids (omega (arith, H.high))
    where
      go : (l : List (K × A)) → length l ≤ 0 → get O k l ≡ none
      go [] h = refl
      go (e ∷ l) h = absurd (omega arith)

  -- THE ENTRY AT `mid`, and what is left by its key's order
  pub record Middle (m : List (K × A)) (lo hi mid : ℕ) : Type 0 where
    pub front : List (K × A)
    pub it : K × A
    pub back : List (K × A)
    pub joined : front ++ it ∷ back ≡ m
    pub at : length front ≡ mid
    pub less : O.compare k it.0 ≡ Less → Halving m lo mid
    pub same : O.compare k it.0 ≡ Equal → get O k m ≡ some it.1
    pub more : O.compare k it.0 ≡ Greater → Halving m (mid + 1) hi

  pub middle : {m : List (K × A)} {lo hi : ℕ} (mid : ℕ) → Halving m lo hi → lo ≤ mid → mid < hi → Middle m lo hi mid
  middle {m} {lo} {hi} mid H l h =
      let e : lo + (mid - lo) ≡ mid = omega arith in
      let P = apart H.mids (mid - lo) (omega (arith, H.high)) in
      let x = P.front in
      let y = P.back in
      let j : H.front ++ ((x ++ P.it ∷ y) ++ H.back) ≡ m = rw P.joined H.joined in
      let u : ascending O (x ++ P.it ∷ y) ≡ true = rw P.joined H.up in
      let i : get O k m ≡ get O k (x ++ P.it ∷ y) = rw P.joined H.is in
      let n : length x + suc (length y) ≡ length H.mids =
      sym (length-append x (P.it ∷ y)) ∙ ap length P.joined in
      record {
        front = H.front ++ x;
        it = P.it;
        back = y ++ H.back;
        joined = append_assoc H.front x (P.it ∷ (y ++ H.back))
            ∙ ap (λ z. H.front ++ z) (sym (append_assoc x (P.it ∷ y) H.back)) ∙ j;
        at = length-append H.front x ∙ omega (arith, H.low, P.count);
        less = λ o. record {
          front = H.front;
          mids = x;
          back = P.it ∷ (y ++ H.back);
          joined = ap (λ z. H.front ++ z) (sym (append_assoc x (P.it ∷ y) H.back)) ∙ j;
          low = H.low;
          high = omega (arith, P.count);
          up = front_ascending x (P.it ∷ y) u;
          is = i ∙ get_less x P.it y u o;
        };
        same = λ o. i ∙ get_same x P.it y u o;
        more = λ o. record {
          front = (H.front ++ x) ++ (P.it ∷ []);
          mids = y;
          back = H.back;
          joined = append_assoc (H.front ++ x) (P.it ∷ []) (y ++ H.back)
              ∙ append_assoc H.front x (P.it ∷ (y ++ H.back))
              ∙ ap (λ z. H.front ++ z) (sym (append_assoc x (P.it ∷ y) H.back)) ∙ j;
          low = length-append (H.front ++ x) (P.it ∷ [])
              ∙ omega (arith, length-append H.front x, H.low, P.count);
          high = omega (arith, H.high, P.count);
          up = rest_ascending W P.it y (back_ascending O k W x (P.it ∷ y) u);
          is = i ∙ get_more x P.it y u o;
        };
      }
