-- Law. The rest of a key sought by halving among a feed's noted trips.
use Rattle.std.specs.Prelude.{◌≡◌, List, ◌∷◌, ◌++◌, ℕ, ◌+◌, ◌-◌, ◌*◌, ◌/◌, ◌≤◌, ◌<◌, length, get_or, Some, None}
use Rattle.std.proofs.Common.{sym, ◌∙◌, arith}
use Rattle.slices.specs.Lists.{lex_of}
use Rattle.std.specs.declared.cmp.Ordering.{Ordering}
use Rattle.std.specs.declared.cmp.Ordering.TheVariants.{Less, Equal, Greater}
use Rattle.maps.specs.Map.{get}
use Rattle.maps.specs.Order.{texts}
use Rattle.maps.proofs.Laws.Order.{texts_order}
use Rattle.formats.specs.Class.{any}
use Rattle.formats.specs.Format.{text}
use Rattle.formats_read.specs.Promises.Here.{Here}
use Rattle.formats_read.specs.Laws.Here.{halves}
use Rattle.formats_skip.specs.Promises.Passes.{Passes}
use Rattle.formats_skip.specs.Laws.Passes.{any_text}
use Rattle.decode.specs.Leaves.{Trips}
use Rattle.decode.specs.Sizes.{most_trips}
use Rattle.decode.specs.Trip.{Trip, trip_entry}
use Rattle.overlay.specs.State.{Feed, trips_of}
use Rattle.overlay_feeds.specs.Promises.Place.{Compares}
use Rattle.overlay_feeds.specs.Laws.Head.{begins}
use Rattle.overlay_noted.specs.Promises.Noted.{places_length, count_at, FeedNoted, RankNoted}
use Rattle.overlay_noted.specs.Laws.Places.{trip_behind}
use Rattle.overlay_seek.specs.Laws.Answers.{at_place, not_there}
use Rattle.overlay_find.specs.Promises.Finds.{Finds}
use Rattle.overlay_find.specs.Laws.Halving.{Halving, Middle, halving_start, halving_within, halving_none, middle}

-- a rank that is noted lies inside
module _ {s places : List ℕ} {r : ℕ} (R : RankNoted s places r) where
  pub rank_low : r < 4
  rank_low = R.noted.low

  pub rank_room : length places ≡ places_length
  rank_room = R.noted.room

-- the trip behind some, where the code looks for it
pub trip_here : {s places : List ℕ} {r i p : ℕ} {e : List ℕ × Feed} (front : Trips) (it : List ℕ × Trip) (back : Trips)
    → FeedNoted s places r e → front ++ it ∷ back ≡ trips_of e.1 → length front ≡ i → p ≡ get_or places (2048 * r + i) 0
    → (q : ℕ) × Here trip_entry s p q it
trip_here {s} {places} {r} front it back N j c w =
    let h = trip_behind s places (2048 * r) front it back (rw j N.trips) in
    (h.0, rw (w, ← c) h.1)

-- what is left from lo up to hi
pub record Searching (s places : List ℕ) (r : ℕ) (rest : List ℕ) (lo hi : ℕ) : Type 0 where
  pub to : {e : List ℕ × Feed} → FeedNoted s places r e → Halving texts texts_order rest (trips_of e.1) lo hi

module _ {s places : List ℕ} {r : ℕ} {rest : List ℕ} where
  pub search_start : {n : ℕ} → n ≡ count_at places r → Searching s places r rest 0 n
  search_start {n} c = record {
    to = λ {e} N.
        let k : n ≡ length (trips_of e.1) = c ∙ N.count in
        rw k (halving_start texts texts_order rest (trips_of e.1) N.up);
  }

  module _ {lo hi : ℕ} (S : Searching s places r rest lo hi) where
    pub search_few : RankNoted s places r → hi ≤ most_trips
    search_few R =
        omega (arith, halving_within texts texts_order rest (S.to R.noted), R.noted.few)

    pub search_none : hi ≤ lo → Finds (get texts rest) s places r None
    search_none h = record { to = λ N. not_there (halving_none texts texts_order rest (S.to N) h) }

    module _ (h : lo < hi) where
      abbrev mid : ℕ
      mid = lo + (hi - lo) / 2

      pub mid_few : RankNoted s places r → mid < most_trips
      mid_few R = omega (arith, search_few R)

      halved : {e : List ℕ × Feed} → FeedNoted s places r e
          → Middle texts texts_order rest (trips_of e.1) lo hi mid
      halved N = middle texts texts_order rest mid (S.to N) (omega arith) (omega arith)

      module _ {p : ℕ} (w : p ≡ get_or places (2048 * r + mid) 0) {o : Ordering} (C : Compares s p rest o) where
        told : {e : List ℕ × Feed} (N : FeedNoted s places r e) {x : Ordering} → o ≡ x → lex_of rest (halved N).it.0 ≡ x
        told N i =
            let M = halved N in
            let t = trip_here M.front M.it M.back N M.joined M.at w in
            sym (C.to (halves t.1).first) ∙ i

        pub search_less : o ≡ Less → Searching s places r rest lo mid
        search_less i = record { to = λ N. (halved N).less (told N i) }

        pub search_more : o ≡ Greater → Searching s places r rest (mid + 1) hi
        search_more i = record { to = λ N. (halved N).more (told N i) }

        pub search_same : {q : ℕ} → o ≡ Equal → Passes (text 0 any) s p q → Finds (get texts rest) s places r (Some q)
        search_same {q} i P = record {
          to = λ N.
              let M = halved N in
              let t = trip_here M.front M.it M.back N M.joined M.at w in
              let x = halves t.1 in
              at_place (record {
                it = M.it.1;
                end = t.0;
                here = begins (sym ((any_text P).to x.first)) x.second;
                is = M.same (told N i);
              });
        }
