-- `count_selectors`, `count_ids` and `is_few` on plain values: those so far and those that are left. Assumes nothing.
use Prim.Native.Nat.{ℕ, ◌+◌, ◌≤◌, ◌<◌}
use mathlib.Core.Path.{◌≡◌, refl, sym, ap, ap₂, ◌∙◌}
use mathlib.Core.Bool.{Bool, true, false, cond, not, ◌&&◌}
use mathlib.Core.List.{List, [], ◌∷◌, map}
use mathlib.Core.Option.{some}
use native.Mathlib.Omega.{arith}
use lib.Dec.{leb}
use lib.ListN.{length, take, drop, length-take, length-drop, length-map}
use borrow.Author.Tests.{le-leb, lt-leb, leb-true, leb-false}
use Rattle.basics.specs.Lists.{filter, is_empty}
use Rattle.realtime.specs.Tree.{Tree}
use Rattle.realtime_views.specs.declared.Walk.{Walk}
use Rattle.realtime_views.specs.declared.Item.{Item}
use Rattle.realtime_views.specs.declared.TextPart.{TextPart}
use Rattle.realtime_views.specs.Promises.Starts.{at_merged}
use Rattle.realtime_views.specs.Promises.Views.{part_in, PartInside}
use Rattle.realtime_views.specs.Promises.Walks.{SoundWalk, ahead}
use Rattle.realtime_views.specs.Laws.Turns.{walks, walks_on, ends, there, less}
use Rattle.alerts_feed.specs.Sheet.{ids_of}
use Rattle.alerts_views.specs.Promises.Views.{CountRead, FewRead, IdRead, entity_at, few, id_of, ids_in}
use Rattle.alerts_views.specs.Promises.Views.{selectors}
use Rattle.alerts_views.specs.Promises.Walks.{NextSelector, SelectorsCounted}
use Rattle.alerts_views.proofs.Walking.{Walked, starts}

-- THE INVARIANT: n are counted of what `sought` says of the selectors
pub record Counting (s : List ℕ) (start len : ℕ) (sought : List Tree → ℕ) (n : ℕ) (w : Walk) : Type 0 where
  pub most : n ≤ 33
  pub walked : Walked s start len (λ e l. n + sought l ≡ sought (selectors e)) w

pub counting : (s : List ℕ) (start len : ℕ) (sought : List Tree → ℕ) {w : Walk} → start + len ≤ length s
    → w ≡ at_merged start → Counting s start len sought 0 w
counting s start len sought i e =
    record { most = omega arith; walked = starts s start len i e (λ t. omega arith) }

module _ {s : List ℕ} {start len n : ℕ} {sought : List Tree → ℕ} {w : Walk} (W : Counting s start len sought n w)
    {x : List ℕ} (X : x ≡ take (start + len) s) where
  pub counts : SoundWalk x w.outer w.end w.at
  counts = walks W.walked X

  module _ {r : Item} (N : NextSelector x w r) {i l : ℕ} {w' : Walk} (a : r ≡ Item.At i l w') where
    pub selector_inside : i + l ≤ length s
    selector_inside = there W.walked X N a

    pub fewer : ahead (take (start + len) s) w' < ahead (take (start + len) s) w
    fewer = less W.walked X N a

-- ---- the selectors

module _ {s : List ℕ} {start len n : ℕ} {w : Walk} (W : Counting s start len length n w) where
  -- too many, whatever is left
  pub selectors_many : 32 < n → SelectorsCounted s start len n
  selectors_many h = record { of = λ e q. omega (arith, W.most, (W.walked.of e q).holds) }

  module _ {x : List ℕ} (X : x ≡ take (start + len) s) {r : Item} (N : NextSelector x w r) where
    pub selectors_counted : r ≡ Item.Done → n ≤ 32 → SelectorsCounted s start len n
    selectors_counted d h = record { of = λ e q. omega (arith, ends W.walked X N d e q) }

    pub selectors_on : {i l : ℕ} {w' : Walk} → r ≡ Item.At i l w' → n ≤ 32 → Counting s start len length (n + 1) w'
    selectors_on a h =
        record { most = omega arith; walked = walks_on W.walked X N a (λ e t k q y p. omega (arith, p)) }

-- ---- the ids of a kind

abbrev pub id_count : ℕ → List Tree → ℕ
id_count kind l = length (ids_of (id_of kind) l)

-- an id that is given, and one that is passed over
one_id : (x : List ℕ) (k : List (List ℕ)) → 0 < length x → length (cond (not (is_empty x)) (x ∷ k) k) ≡ 1 + length k
one_id [] k h = absurd (omega arith)
one_id (b ∷ x) k h = omega arith

no_id : (x : List ℕ) (k : List (List ℕ)) → length x ≤ 0 → length (cond (not (is_empty x)) (x ∷ k) k) ≡ length k
no_id [] k h = refl
no_id (b ∷ x) k h = absurd (omega arith)

part_length : (s : List ℕ) (p : TextPart) → PartInside (length s) p → length (part_in s p) ≡ p.len
part_length s p h = omega (arith, length-take p.len (drop p.start s), length-drop p.start s)

module _ {s : List ℕ} {start len kind n : ℕ} {w : Walk} (W : Counting s start len (id_count kind) n w) where
  pub ids_many : 32 < n → CountRead s start len kind n
  ids_many h = record { of = λ e q. omega (arith, W.most, (W.walked.of e q).holds) }

  module _ {x : List ℕ} (X : x ≡ take (start + len) s) {r : Item} (N : NextSelector x w r) where
    pub ids_counted : r ≡ Item.Done → n ≤ 32 → CountRead s start len kind n
    ids_counted d h = record { of = λ e q. omega (arith, ends W.walked X N d e q) }

    module _ {i l : ℕ} {w' : Walk} (a : r ≡ Item.At i l w') (h : n ≤ 32) {id : TextPart} (I : IdRead s i l kind id)
      where
        long : (t : Tree) → part_in s id ≡ id_of kind t → length (id_of kind t) ≡ id.len
        long t e = ap length (sym e) ∙ part_length s id I.inside

        pub ids_more : 0 < id.len → Counting s start len (id_count kind) (n + 1) w'
        ids_more g = record {
          most = omega arith;
          walked = walks_on W.walked X N a
              (λ e t k q y p. omega (
                arith,
                p,
                one_id (id_of kind t) (ids_of (id_of kind) k) (omega (arith, long t (I.of t y))),
              ));
        }

        pub ids_on : id.len ≤ 0 → Counting s start len (id_count kind) n w'
        ids_on g = record {
          most = W.most;
          walked = walks_on W.walked X N a
              (λ e t k q y p. omega (
                arith,
                p,
                no_id (id_of kind t) (ids_of (id_of kind) k) (omega (arith, long t (I.of t y))),
              ));
        }

-- ---- whether they are few

filter_most : {A : Type 0} (p : A → Bool) (l : List A) → length (filter p l) ≤ length l
filter_most p [] = omega arith
filter_most p (a ∷ l) = go (p a) (filter_most p l)
  where
    go : (b : Bool) → length (filter p l) ≤ length l → length (cond b (a ∷ filter p l) (filter p l)) ≤ length (a ∷ l)
    go true h = omega arith
    go false h = omega arith

ids_most : (kind : ℕ) (l : List Tree) → id_count kind l ≤ length l
ids_most kind l = omega (arith, filter_most (λ x. not (is_empty x)) (map (id_of kind) l), length-map l (id_of kind))

module _ {s : List ℕ} {start len : ℕ} where
  -- no more ids than selectors
  pub few_selectors : {r : ℕ} → SelectorsCounted s start len r → r ≤ 32 → FewRead s start len true
  few_selectors C h = record {
    of = λ e q. let z : length (selectors e) ≤ 32 = omega (arith, C.of e q) in
        let all_few : (kind : ℕ) → leb (id_count kind (selectors e)) 32 ≡ true = λ kind.
        le-leb (id_count kind (selectors e)) 32 (omega (arith, ids_most kind (selectors e))) in
        sym (rw (all_few 4, all_few 2, all_few 5) refl);
  }

  within : {kind n : ℕ} → CountRead s start len kind n → (e : Tree) → entity_at s start len ≡ some e
      → leb (length (ids_in kind e)) 32 ≡ leb n 32
  within {kind} {n} C e q = go (leb n 32) refl
    where
      go : (b : Bool) → leb n 32 ≡ b → leb (length (ids_in kind e)) 32 ≡ b
      go true g = le-leb (length (ids_in kind e)) 32 (omega (arith, C.of e q, leb-true n 32 g))
      go false g = lt-leb (length (ids_in kind e)) 32 (omega (arith, C.of e q, leb-false n 32 g))

  module _ {trips : ℕ} (T : CountRead s start len 4 trips) where
    pub many_trips : 32 < trips → FewRead s start len false
    many_trips h = record {
      of = λ e q. sym (ap (λ b. b && (leb (length (ids_in 2 e)) 32 && leb (length (ids_in 5 e)) 32))
          (within T e q ∙ lt-leb trips 32 h));
    }

    module _ {routes : ℕ} (t : trips ≤ 32) (R : CountRead s start len 2 routes) where
      few_trips : (e : Tree) → entity_at s start len ≡ some e
          → few e ≡ (leb routes 32 && leb (length (ids_in 5 e)) 32)
      few_trips e q = ap₂ (λ b d. b && (d && leb (length (ids_in 5 e)) 32)) (within T e q ∙ le-leb trips 32 t)
          (within R e q)

      pub many_routes : 32 < routes → FewRead s start len false
      many_routes h = record {
        of = λ e q. sym (few_trips e q ∙ ap (λ b. b && leb (length (ids_in 5 e)) 32) (lt-leb routes 32 h));
      }

      pub by_stops : {stops : ℕ} → routes ≤ 32 → CountRead s start len 5 stops → FewRead s start len (leb stops 32)
      by_stops h S = record {
        of = λ e q. sym (few_trips e q ∙ ap₂ ◌&&◌ (le-leb routes 32 h) (within S e q));
      }
