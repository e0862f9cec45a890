-- Law. A feed's rank among those that are noted.
use Rattle.std.specs.Prelude.{◌≡◌, refl, true, List, [], ◌∷◌, ◌++◌, ℕ, suc, ◌+◌, ◌-◌, ◌≤◌, ◌<◌, length, Option, Some, None}
use Rattle.std.proofs.Common.{sym, ap, ◌∙◌, append_assoc, arith, length-append}
use Rattle.std.proofs.Math.Option.{Option as LogicOption, none, some}
use Rattle.basics.specs.Lists.{All}
use Rattle.slices.specs.Lists.{lex_of}
use Rattle.std.specs.declared.cmp.Ordering.{Ordering}
use Rattle.std.specs.declared.cmp.Ordering.TheVariants.{Less, Equal, Greater}
use Rattle.maps.specs.Map.{get, ascending}
use Rattle.maps.specs.Order.{texts}
use Rattle.maps.proofs.Laws.Order.{texts_order, lex_same}
use Rattle.formats_read.specs.Promises.Here.{Here}
use Rattle.formats_read.specs.Laws.Here.{reads}
use Rattle.overlay.specs.State.{State, Feed, overlay, feeds_of}
use Rattle.overlay_noted.specs.Promises.Noted.{places_length, entry_at, FeedNoted, FeedsNoted, Noted, RankNoted}
use Rattle.overlay_noted.specs.Laws.Places.{feed_behind}
use Rattle.overlay_feeds.specs.Promises.Head.{ReadsHead}
use Rattle.overlay_feeds.specs.Promises.Place.{Compares}
use Rattle.overlay_feeds.specs.Laws.Head.{begins}
use Rattle.overlay_feeds.specs.Laws.Map.{get_past, back_ascending, get_below}
use Rattle.overlay_places.specs.Promises.Ranks.{RanksFeed}

-- one state stands at 0
one_read : {A : Type 0} {o : LogicOption (A × List ℕ)} {v u : A} {x y : List ℕ} → o ≡ some (v, x) → o ≡ some (u, y)
    → v ≡ u
one_read {A} {v} {u} {x} {y} e f = let p : ◌≡◌ {A = A × List ℕ} (v, x) (u, y) = cc in ap (λ z. z.0) p

pub one_state : {s : List ℕ} {st u : State} {p q : ℕ} → Here overlay s 0 p st → Here overlay s 0 q u → st ≡ u
one_state g h = one_read (reads g) (reads h)

pub noted_room : {s places : List ℕ} → Noted s places → length places ≡ places_length
noted_room N = N.room

-- every feed at a lower rank has an id that comes before f
abbrev pub Before : List ℕ → List ℕ × Feed → Type 0
Before f e = lex_of f e.0 ≡ Greater

pub record Stopped (f : List ℕ) (fs : List (List ℕ × Feed)) (left r : ℕ) : Type 0 where
  pub front : List (List ℕ × Feed)
  pub back : List (List ℕ × Feed)
  pub joined : front ++ back ≡ fs
  pub rank : length front ≡ r
  pub count : length back ≡ left
  pub before : All (Before f) front

pub record Ranking (s places f : List ℕ) (left r : ℕ) : Type 0 where
  pub at : (N : Noted s places) → Stopped f (feeds_of N.state) left r

all_more : {A : Type 0} (P : A → Type 0) (us : List A) (v : A) → All P us → P v → All P (us ++ (v ∷ []))
all_more P [] v h x = (x, tt)
all_more P (u ∷ us) v h x = (h.0, all_more P us v h.1 x)

told : {s : List ℕ} {p : ℕ} {x : List ℕ} {r o : Ordering} → Compares s p x r → r ≡ o → Compares s p x o
told C e = rw e at C

module _ {s places f : List ℕ} where
  pub ranking_start : {v c n a : ℕ} → ReadsHead s v c n a → Ranking s places f n 0
  ranking_start R = record {
    at = λ M. record {
      front = [];
      back = feeds_of M.state;
      joined = refl;
      rank = refl;
      count = sym (R.to M.here).count_is;
      before = tt;
    };
  }

  module _ (N : Noted s places) {left r : ℕ} (K : Ranking s places f left r) where
    pub rank_low : 0 < left → r < 4
    rank_low z =
        let S = K.at N in
        omega (arith, S.rank, S.count, ap length S.joined, length-append S.front S.back, N.few)

-- the feed at the rank that the walk has reached
record Next (s places f : List ℕ) (fs : List (List ℕ × Feed)) (left r : ℕ) : Type 0 where
  front : List (List ℕ × Feed)
  it : List ℕ × Feed
  back : List (List ℕ × Feed)
  joined : front ++ it ∷ back ≡ fs
  rank : length front ≡ r
  count : suc (length back) ≡ left
  before : All (Before f) front
  noted : FeedNoted s places r it

next_of : (s places f : List ℕ) (fs : List (List ℕ × Feed)) (left r : ℕ) (front back : List (List ℕ × Feed))
    → front ++ back ≡ fs → length front ≡ r → length back ≡ left → All (Before f) front → FeedsNoted s places 0 fs
    → 0 < left → Next s places f fs left r
next_of s places f fs left r front [] j k c b n z = absurd (omega arith)
next_of s places f fs left r front (e ∷ back) j k c b n z =
    let i : 0 + length front ≡ r = omega arith in
    record {
      front = front;
      it = e;
      back = back;
      joined = j;
      rank = k;
      count = c;
      before = b;
      noted = rw i at (feed_behind s places 0 front e back (rw j n));
    }

module _ {s places f : List ℕ} {left r : ℕ} (K : Ranking s places f left r) (z : 0 < left) {w : ℕ}
    (e : w ≡ entry_at places r) {o : Ordering} (C : Compares s w f o) where
  next : (N : Noted s places) → Next s places f (feeds_of N.state) left r
  next N =
      let S = K.at N in
      next_of s places f (feeds_of N.state) left r S.front S.back S.joined S.rank S.count S.before
      N.feeds z

  ordered : (N : Noted s places) {x : Ordering} → o ≡ x → lex_of f (next N).it.0 ≡ x
  ordered N i = sym ((told C i).to (begins (sym e) (next N).noted.id_here))

  pub ranking_on : o ≡ Greater → Ranking s places f (left - 1) (r + 1)
  ranking_on m = record {
    at = λ N.
        let X = next N in
        record {
          front = X.front ++ (X.it ∷ []);
          back = X.back;
          joined = append_assoc X.front (X.it ∷ []) X.back ∙ X.joined;
          rank = length-append X.front (X.it ∷ []) ∙ omega (arith, X.rank);
          count = omega (arith, X.count);
          before = all_more (Before f) X.front X.it X.before (ordered N m);
        };
  }

named : {s places f : List ℕ} {r : ℕ} (x : List ℕ) (F : Feed) → f ≡ x → FeedNoted s places r (x, F)
    → FeedNoted s places r (f, F)
named x F k N = rw k N

module _ {s places f : List ℕ} (N : Noted s places) where
  ranked_missing : get texts f (feeds_of N.state) ≡ none → RanksFeed s places f None
  ranked_missing e = record {
    to = λ {st} h.
        let i = one_state h N.here in
        record {
          found = λ r x. absurd (let z : ◌≡◌ {A = ℕ} 0 1 = cc in omega arith);
          lost = λ x. rw i e;
        };
  }

  ranked_at : {r : ℕ} (F : Feed) → get texts f (feeds_of N.state) ≡ some F → FeedNoted s places r (f, F)
      → RanksFeed s places f (Some r)
  ranked_at {r} F e n = record {
    to = λ {st} h.
        let i = one_state h N.here in
        record {
          found = λ q x. let k : r ≡ q = cc in record { it = F; got = rw i e; noted = rw k at n };
          lost = λ x. absurd (let z : ◌≡◌ {A = ℕ} 0 1 = cc in omega arith);
        };
  }

  module _ {left r : ℕ} (K : Ranking s places f left r) where
    pub rank_none : left ≤ 0 → RanksFeed s places f None
    rank_none z = let S = K.at N in
        ranked_missing (ap (get texts f) (sym S.joined) ∙ get_past texts f S.front S.back S.before
        ∙ ap (get texts f) (no_more S.back (omega (arith, S.count))))
      where
        no_more : (l : List (List ℕ × Feed)) → length l ≤ 0 → l ≡ []
        no_more [] h = refl
        no_more (e ∷ l) h = absurd (omega arith)

    module _ (z : 0 < left) {w : ℕ} (e : w ≡ entry_at places r) {o : Ordering} (C : Compares s w f o) where
      pub rank_less : o ≡ Less → RanksFeed s places f None
      rank_less m =
          let X = next K z e C N in
          let u : ascending texts (X.front ++ X.it ∷ X.back) ≡ true = rw X.joined N.up in
          ranked_missing (ap (get texts f) (sym X.joined)
          ∙ get_past texts f X.front (X.it ∷ X.back) X.before
          ∙ get_below texts f texts_order X.it X.back (ordered K z e C N m)
          (back_ascending texts f texts_order X.front (X.it ∷ X.back) u))

      pub rank_same : o ≡ Equal → RanksFeed s places f (Some r)
      rank_same m =
          let X = next K z e C N in
          let i = ordered K z e C N m in
          let k : f ≡ X.it.0 = lex_same f X.it.0 i in
          ranked_at X.it.1 (ap (get texts f) (sym X.joined)
          ∙ get_past texts f X.front (X.it ∷ X.back) X.before ∙ rw i refl)
          (named X.it.0 X.it.1 k X.noted)

-- some feed is noted at a rank that was found
pub rank_noted : {s places f : List ℕ} {x : Option ℕ} {r : ℕ} → Noted s places → RanksFeed s places f x → x ≡ Some r
    → RankNoted s places r
rank_noted {f} {r} N R e = let A = (R.to N.here).found r e in record { feed = (f, A.it); noted = A.noted }

pub found_low : {s places f : List ℕ} {x : Option ℕ} {r : ℕ} → Noted s places → RanksFeed s places f x → x ≡ Some r
    → r < 4
found_low {r} N R e = ((R.to N.here).found r e).noted.low
