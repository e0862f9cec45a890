-- Law. A feed by its id: how a text's order is read, and what the walk over the feeds finds.
use Rattle.std.specs.Prelude.{◌≡◌, refl, true, List, [], ◌∷◌, ◌++◌, ℕ, ◌+◌, ◌-◌, ◌≤◌, ◌<◌, length, take, drop}
use Rattle.std.proofs.Common.{sym, ap, ◌∙◌, arith}
use Rattle.std.proofs.Math.Seq.{length-slice}
use Rattle.std.proofs.Math.Option.{none}
use Rattle.slices.specs.Lists.{lex_of}
use Rattle.std.specs.declared.cmp.Ordering.{Ordering}
use Rattle.std.specs.declared.cmp.Ordering.TheVariants.{Less, Equal, Greater}
use Rattle.maps.specs.Map.{get, put, ascending}
use Rattle.maps.specs.Order.{texts}
use Rattle.maps.proofs.Laws.Order.{texts_order, lex_same}
use Rattle.formats.specs.Class.{any}
use Rattle.formats.specs.Format.{Format, text, Value}
use Rattle.formats_write.specs.Laws.Slices.{slice_is}
use Rattle.formats_read.specs.Promises.Here.{Here}
use Rattle.formats_read.specs.Promises.Lists.{Many}
use Rattle.formats_read.specs.Promises.Reads.{ReadsText}
use Rattle.formats_read.specs.Laws.Here.{halves}
use Rattle.formats_read.specs.Laws.Lists.{run}
use Rattle.formats_skip.specs.Promises.Passes.{Passes}
use Rattle.formats_skip.specs.Laws.Passes.{any_text}
use Rattle.overlay.specs.State.{Feed, State, overlay, feed_entry, feeds_of}
use Rattle.overlay_feeds.specs.declared.FeedPlace.TheVariants.{At, Missing}
use Rattle.overlay_feeds.specs.Promises.Head.{ReadsHead}
use Rattle.overlay_feeds.specs.Promises.Place.{Compares, FeedAt, FeedMissing, Placed, FindsFeed}
use Rattle.overlay_feeds.specs.Laws.Head.{begins, ends}
use Rattle.overlay_feeds.specs.Laws.Look.{Looking, Stopped, look_start, look_on, look_stop}
use Rattle.overlay_feeds.specs.Laws.Map.{get_past, put_past, back_ascending, get_below}

pub compares : {s : List ℕ} {p a e : ℕ} {x : List ℕ} {r : Ordering} → ReadsText s p a e
    → r ≡ lex_of x (take (e - a) (drop a s)) → Compares s p x r
compares {s} {p} {a} {e} {x} T c = record {
  to = λ h. c ∙ ap (lex_of x) (slice_is a e s T.forward T.within ∙ T.bytes h);
}

told : {s : List ℕ} {p : ℕ} {x : List ℕ} {r o : Ordering} → Compares s p x r → r ≡ o → Compares s p x o
told C e = rw e at C

-- every feed behind the walk has an id that comes before f
abbrev pub Before : List ℕ → List ℕ × Feed → Type 0
Before f e = lex_of f e.0 ≡ Greater

pub record Seeking (s f : List ℕ) (a n p left i : ℕ) : Type 0 where
  pub look : Looking feed_entry (Before f) s a n p left i
  pub sum : i + left ≡ n

module _ {s f : List ℕ} {a n : ℕ} where
  pub seek_start : Seeking s f a n a n 0
  seek_start = record { look = look_start; sum = omega arith }

  pub seek_on : {p left i e : ℕ} {r : Ordering} → Seeking s f a n p left i → 0 < left → Compares s p f r → r ≡ Greater
      → Passes feed_entry s p e
      → Seeking s f a n e (left - 1) (i + 1)
  seek_on {p} S z C m E = record {
    look = look_on S.look z E (λ v q h. sym ((told C m).to (halves h).first));
    sum = omega (arith, S.sum);
  }

-- where the values of a list begin is known by where they end
same_start : (f : Format) (s : List ℕ) (a b q : ℕ) (vs : List (Value f)) → Many f s a q vs → Many f s b q vs → a ≡ b
same_start f s a b q vs x y =
    let m = run f s a q vs x in
    let n = run f s b q vs y in
    omega (
      arith,
      m.forward,
      n.forward,
      sym (length-slice a q s m.within) ∙ ap length m.written ∙ sym (ap length n.written)
          ∙ length-slice b q s n.within,
    )

-- what stands ahead has no feed f, and f would come first there
record Free (f : List ℕ) (back : List (List ℕ × Feed)) : Type 0 where
  got : get texts f back ≡ none
  puts : (G : Feed) → put texts f G back ≡ (f, G) ∷ back

free_end : (f : List ℕ) (back : List (List ℕ × Feed)) → length back ≤ 0 → Free f back
free_end f [] l = record { got = refl; puts = λ G. refl }
free_end f (e ∷ back) l = absurd (omega arith)

module _ (s f : List ℕ) (q p : ℕ) where
  free_here : (front back : List (List ℕ × Feed)) → 0 < length back → Many feed_entry s p q back → Compares s p f Less
      → ascending texts (front ++ back) ≡ true → Free f back
  free_here front [] l m C o = absurd (omega arith)
  free_here front (e ∷ back) l m C o =
      let x : lex_of f e.0 ≡ Less = sym (C.to (halves m.1).first) in
      record {
        got = get_below texts f texts_order e back x (back_ascending texts f texts_order front (e ∷ back) o);
        puts = λ G. rw x refl;
      }

  module _ (st : State) (i a left : ℕ) (M : Many feed_entry s a q (feeds_of st))
      (S : Stopped feed_entry (Before f) s a q (feeds_of st) p left i) where
    passed_from : (b : ℕ) → Many feed_entry s b q (feeds_of st) → Many feed_entry s b p S.front
    passed_from b h = let e = same_start feed_entry s b a q (feeds_of st) h M in rw e S.passed

    missing_at : Free f S.back → FeedMissing s f st q i p
    missing_at F = record {
      front = S.front;
      back = S.back;
      joined = S.joined;
      rank = S.rank;
      passed = passed_from;
      ahead = S.ahead;
      got = ap (get texts f) (sym S.joined) ∙ get_past texts f S.front S.back S.so ∙ F.got;
      puts = λ G.
          ap (put texts f G) (sym S.joined) ∙ put_past texts f G S.front S.back S.so
          ∙ ap (λ l. S.front ++ l) (F.puts G);
    }

    feed_at : (m : ℕ) (back : List (List ℕ × Feed)) → S.back ≡ back → 0 < length back → Many feed_entry s p q back
        → Compares s p f Equal → Passes (text 0 any) s p m → FeedAt s f st q i p m
    feed_at m [] w l h C T = absurd (omega arith)
    feed_at m (e ∷ back) w l h C T =
        let x = halves h.1 in
        let o : lex_of f e.0 ≡ Equal = sym (C.to x.first) in
        let k : f ≡ e.0 = lex_same f e.0 o in
        let t = sym ((any_text T).to x.first) in
        let j : S.front ++ e ∷ back ≡ feeds_of st = ap (λ l. S.front ++ l) (sym w) ∙ S.joined in
        record {
          front = S.front;
          it = e.1;
          back = back;
          till = h.0;
          joined = ap (λ g. S.front ++ (g, e.1) ∷ back) k ∙ j;
          rank = S.rank;
          id_here = rw k (ends t x.first);
          feed_here = begins t x.second;
          passed = passed_from;
          ahead = h.2;
          got = ap (get texts f) (sym j) ∙ get_past texts f S.front (e ∷ back) S.so ∙ rw o refl;
          puts = λ G.
              ap (put texts f G) (sym j) ∙ put_past texts f G S.front (e ∷ back) S.so
              ∙ ap (λ l. S.front ++ l) (rw o refl);
        }

module _ {b f : List ℕ} {st : State} {q : ℕ} where
  placed_at : {i p m : ℕ} → FeedAt b f st q i p m → Placed b f st q (At i p m)
  placed_at {i} {p} {m} A = record {
    found = λ j r n e. let x : i ≡ j = cc in let y : p ≡ r = cc in let z : m ≡ n = cc in rw (x, y, z) at A;
    lost = λ j r e. absurd (let z : ◌≡◌ {A = ℕ} 0 1 = cc in omega arith);
  }

  placed_missing : {i p : ℕ} → FeedMissing b f st q i p → Placed b f st q (Missing i p)
  placed_missing {i} {p} M = record {
    found = λ j r n e. absurd (let z : ◌≡◌ {A = ℕ} 0 1 = cc in omega arith);
    lost = λ j r e. let x : i ≡ j = cc in let y : p ≡ r = cc in rw (x, y) at M;
  }

-- THE WALK'S THREE ENDS
module _ {s f : List ℕ} {v c n a p left i : ℕ} (H : ReadsHead s v c n a) (S : Seeking s f a n p left i) where
  stopped : (st : State) (q : ℕ) → Here overlay s 0 q st → Stopped feed_entry (Before f) s a q (feeds_of st) p left i
  stopped st q h = look_stop S.look (feeds_of st) (sym (H.to h).count_is) (H.to h).feeds_here

  pub feed_less : {r : Ordering} → 0 < left → Compares s p f r → r ≡ Less → FindsFeed s f (Missing i p)
  feed_less z C m = record {
    to = λ {st} {q} h o.
        let P = stopped st q h in
        placed_missing (missing_at s f q p st i a left (H.to h).feeds_here P
        (free_here s f q p P.front P.back (omega (arith, P.count)) P.ahead (told C m) (rw P.joined o)));
  }

  pub feed_end : left ≤ 0 → FindsFeed s f (Missing i p)
  feed_end z = record {
    to = λ {st} {q} h o. let P = stopped st q h in
        placed_missing (missing_at s f q p st i a left (H.to h).feeds_here P
        (free_end f P.back (omega (arith, P.count))));
  }

  pub feed_all : left ≤ 0 → FindsFeed s f (Missing n p)
  feed_all z =
      let e : i ≡ n = omega (arith, S.sum) in
      let F : FindsFeed s f (Missing i p) = feed_end z in
      rw e at F

  pub feed_same : {m : ℕ} {r : Ordering} → 0 < left → Compares s p f r → r ≡ Equal → Passes (text 0 any) s p m
      → FindsFeed s f (At i p m)
  feed_same {m} z C k T = record {
    to = λ {st} {q} h o. let P = stopped st q h in
        placed_at (feed_at s f q p st i a left (H.to h).feeds_here P m P.back refl (omega (arith, P.count))
        P.ahead (told C k) T);
  }
