-- Law. Where the body of a feed goes: over its old entry, or among the feeds that are there, if they are not too many.
use Rattle.std.specs.Prelude.{◌≡◌, Bool, cond, true, false, ◌&&◌, List, ◌∷◌, ℕ, ◌+◌, ◌≤◌, ◌<◌, length, Some, None}
use Rattle.std.proofs.Math.Path.{refl, ap}
use Rattle.std.proofs.Common.{sym, subst, ◌∙◌, arith, length-append}
use Rattle.std.proofs.Math.Option.{Option, none, some, get_or}
use Rattle.std.proofs.Math.Dec.{leb}
use borrow.Author.Tests.{le-leb, lt-leb}
use Rattle.basics.specs.Lists.{all}
use Rattle.maps.specs.Map.{get, put}
use Rattle.maps.specs.Order.{texts}
use Rattle.formats_judge.specs.Judged.{ok}
use Rattle.formats_read.specs.Promises.Here.{Here}
use Rattle.formats_read.specs.Laws.Here.{whole_here}
use Rattle.overlay.specs.State.{Feed, State, feed, feed_entry, overlay, feeds_of, no_feed}
use Rattle.overlay.specs.Change.{feed_at, put_feed}
use Rattle.overlay.specs.Valid.{valid}
use Rattle.overlay_open.specs.Promises.Held.{HeldFeed}
use Rattle.overlay_open.specs.Laws.Held.{feeds_up, feeds_few, feed_found}
use Rattle.overlay_feeds.specs.declared.FeedPlace.{FeedPlace}
use Rattle.overlay_feeds.specs.Promises.Head.{ReadsHead}
use Rattle.overlay_feeds.specs.Promises.Place.{FeedAt, FeedMissing, FindsFeed}
use Rattle.overlay_frame.specs.declared.FeedSpot.TheVariants.{Known, New}
use Rattle.overlay_frame.specs.Promises.Frame.{Spot}
use Rattle.overlay_frame.specs.Promises.Body.{no_body, BodyAt, FindsSpot}
use Rattle.overlay_frame.specs.Laws.Frame.{count_is}

-- what holds of an empty feed and of every one of a valid state holds of the feed of an id
pub of_feed : (P : Feed → Type 0) (f : List ℕ) (s : State) → valid s ≡ true → ((F : Feed) → HeldFeed (f, F) → P F)
    → P no_feed → P (feed_at f s)
unfolding feed_at
of_feed P f s u each empty = go (get texts f (feeds_of s)) refl
  where
    go : (o : Option Feed) → get texts f (feeds_of s) ≡ o → P (get_or o no_feed)
    go none e = empty
    go (some F) e = each F (feed_found s u f F e)

-- THE NUMBER OF FEEDS
module _ {b : List ℕ} {q : ℕ} {s : State} {f : List ℕ} {from to count : ℕ} (S : Spot b q s f from to count) (F : Feed)
    (n : ℕ) where
  pub few_feeds : count ≤ 4 → leb (length (feeds_of (put_feed f F n s))) 4 ≡ true
  unfolding put_feed
  few_feeds h = ap (λ k. leb k 4) (count_is S F) ∙ le-leb count 4 h

  many_feeds : 4 < count → ok 7 overlay (put_feed f F n s) ≡ false
  unfolding put_feed
  many_feeds h =
      let fs = put texts f F (feeds_of s) in
      ap (λ t. t && all (ok 7 feed_entry) fs) (ap (λ k. leb k 4) (count_is S F) ∙ lt-leb count 4 h)

-- THE BODY, and where the state goes on behind its old entry, which ends at `stop`
pub goes : {b h f : List ℕ} {q from count body stop to : ℕ} {known : Bool} {s : State}
    (B : BodyAt b q s f from known count h body) → to ≡ cond known stop from → stop ≡ B.till
    → Spot b q s f from to count
goes {b} {f} {q} {from} {count} {known} {s} B t e =
    subst (λ to. Spot b q s f from to count) (sym (t ∙ ap (λ e. cond known e from) e)) B.spot

no_body_holds : Here feed no_body 0 5 no_feed
no_body_holds = whole_here feed no_body no_feed refl

module _ (f : List ℕ) (s : State) where
  was : (F : Feed) → get texts f (feeds_of s) ≡ some F → feed_at f s ≡ F
  unfolding feed_at
  was F e = rw e refl

  was_not : get texts f (feeds_of s) ≡ none → feed_at f s ≡ no_feed
  unfolding feed_at
  was_not e = rw e refl

module _ {b f : List ℕ} {v c n first : ℕ} (H : ReadsHead b v c n first) where
  module _ {s : State} {q : ℕ} (h : Here overlay b 0 q s) (u : valid s ≡ true) where
    body_known : {i p m : ℕ} → FeedAt b f s q i p m → BodyAt b q s f p true n b m
    body_known {m} A = record {
      valid = u;
      till = A.till;
      here = rw (was f s A.it A.got) A.feed_here;
      spot = record {
        whole = h;
        first = first;
        front = A.front;
        back = A.back;
        listed = (H.to h).feeds_here;
        before = A.passed first (H.to h).feeds_here;
        behind = A.ahead;
        puts = A.puts;
        many = (H.to h).count_is ∙ ap length (sym A.joined)
            ∙ length-append A.front ((f, A.it) ∷ A.back) ∙ omega arith;
      };
      few = omega (arith, (H.to h).count_is, feeds_few s u);
    }

    spot_new : {i p : ℕ} → FeedMissing b f s q i p → Spot b q s f p p (n + 1)
    spot_new A =
        let e : n ≡ length A.front + length A.back =
        (H.to h).count_is ∙ ap length (sym A.joined) ∙ length-append A.front A.back in
        record {
          whole = h;
          first = first;
          front = A.front;
          back = A.back;
          listed = (H.to h).feeds_here;
          before = A.passed first (H.to h).feeds_here;
          behind = A.ahead;
          puts = A.puts;
          many = omega arith;
        }

    body_new : {i p : ℕ} → FeedMissing b f s q i p → n < 4 → BodyAt b q s f p false (n + 1) no_body 0
    body_new A l = record {
      valid = u;
      till = 5;
      here = rw (was_not f s A.got) no_body_holds;
      spot = spot_new A;
      few = omega arith;
    }

  -- THE THREE ANSWERS
  module _ {r : FeedPlace} (P : FindsFeed b f r) {i p : ℕ} where
    pub known_spot : {m : ℕ} → r ≡ FeedPlace.At i p m → FindsSpot b f (Some (Known p m n))
    known_spot {m} e = record {
      to = λ {s} {q} h u.
          let B = body_known h u ((P.to h (feeds_up s u)).found i p m e) in
          record {
            full = λ d. absurd (let z : ◌≡◌ {A = ℕ} 0 1 = cc in omega arith);
            known = λ from body count d.
                let x : p ≡ from = cc in let y : m ≡ body = cc in let z : n ≡ count = cc in rw (x, y, z) at B;
            new = λ from count d. absurd (let z : ◌≡◌ {A = ℕ} 0 1 = cc in omega arith);
          };
    }

    module _ (e : r ≡ FeedPlace.Missing i p) where
      pub new_spot : n < 4 → FindsSpot b f (Some (New p (n + 1)))
      new_spot l = record {
        to = λ {s} {q} h u.
            let B = body_new h u ((P.to h (feeds_up s u)).lost i p e) l in
            record {
              full = λ d. absurd (let z : ◌≡◌ {A = ℕ} 0 1 = cc in omega arith);
              known = λ from body count d. absurd (let z : ◌≡◌ {A = ℕ} 0 1 = cc in omega arith);
              new = λ from count d. let x : p ≡ from = cc in let y : n + 1 ≡ count = cc in rw (x, y) at B;
            };
      }

      pub no_spot : 4 ≤ n → FindsSpot b f None
      no_spot l = record {
        to = λ {s} {q} h u. record {
          full = λ d F n. many_feeds (spot_new h u ((P.to h (feeds_up s u)).lost i p e)) F n (omega arith);
          known = λ from body count d. absurd (let z : ◌≡◌ {A = ℕ} 0 1 = cc in omega arith);
          new = λ from count d. absurd (let z : ◌≡◌ {A = ℕ} 0 1 = cc in omega arith);
        };
      }
