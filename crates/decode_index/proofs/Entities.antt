-- The entities of a message, one after the other: what is left of them over the index so far gives the index of the
-- whole. Assumes nothing.
use Prim.Native.Nat.{ℕ, ◌+◌, ◌≤◌, ◌<◌}
use mathlib.Core.Path.{◌≡◌, refl, sym, ap, subst, ◌∙◌}
use mathlib.Core.Bool.{Bool, true, false, cond, false≢true}
use mathlib.Core.List.{List, [], ◌∷◌}
use mathlib.Core.Option.{Option, none, some, map}
use native.Mathlib.Omega.{arith}
use lib.Dec.{leb}
use lib.ListN.{length, take, drop}
use borrow.Author.Tests.{lt-ltb, leb-true}
use Rattle.basics.specs.Lists.{All, is_empty}
use Rattle.formats.specs.Class.{printable, in_class}
use Rattle.realtime.specs.Tree.{Tree, Leaf, count, words, tree, last, sub, rep}
use Rattle.realtime.specs.Schema.{field_rows, feed, feed_message, feed_entity, trip_update, trip_descriptor}
use Rattle.realtime.specs.Judge.{rules, asked, texts_fine, numbers_fine, limit_by}
use Rattle.realtime.specs.declared.Verdict.{Verdict}
use Rattle.realtime.specs.Typed.{text_in}
use Rattle.realtime.specs.Views.{trip, deleted}
use Rattle.realtime_views.specs.Promises.Walks as walks
use Rattle.realtime_views.specs.Laws.Walks.{left_entities, found, yielded}
use Rattle.realtime_views.specs.Promises.Walks.{Yield, NextEntity}
use Rattle.realtime_views.specs.Laws.Starts.{entities_left, plain_sound}
use Rattle.realtime_views.specs.Promises.Starts.{at_plain}
use Rattle.realtime_views.specs.declared.Walk.{Walk}
use Rattle.realtime_views.specs.declared.Item.{Item}
use Rattle.maps.specs.Map.{puts, map_values}
use Rattle.maps.specs.Order.{texts}
use Rattle.maps.proofs.Laws.Map.{map_puts, map_length, puts_append, puts_longer, puts_all}
use Rattle.basics.specs.Laws.Booleans.{both_true}
use Rattle.decode.specs.Trip as held
use Rattle.decode.specs.Record.{trip_in}
use Rattle.decode.specs.Key.{dated_key, incomplete_key, inserts, entries_in}
use Rattle.decode.specs.Leaves.{Trips, entries}
use Rattle.decode_slots.specs.Index.{Place, index}
use Rattle.decode_slots.specs.Promises.Index.{SoundIndex}
use Rattle.decode_keys.specs.Promises.Entity as entity
use Rattle.decode_keys.specs.Promises.Entity.{placed_at, Applies}
use Rattle.decode.specs.Laws.Fine.{FineTree, Given, LeafFine, fine_sub, fine_rep, fine_last, tree_fine}
use Rattle.decode.specs.Sizes.{beyond}
use Rattle.decode_slots.specs.Places.{or_end, record_at, held_at, held, is_new}
use Rattle.decode_slots.specs.Laws.Places.{read_at, readable_at}
use Rattle.decode_index.specs.Message.{message_tree}
use Rattle.decode_index.specs.Promises.Message.{JudgedMessage, Fit, AllFit, with_entities, Indexed}

-- ---- a judged message

-- an entity within questions 5 and 6
abbrev pub FineEntity : Tree → Type 0
FineEntity e = FineTree feed rules feed_entity e

pub record Whole (s : List ℕ) : Type 0 where
  pub message : Tree
  pub read : tree feed feed_message s ≡ some message
  pub fine : All FineEntity (rep 2 message)

no_text : {C : Type 0} → Verdict.Text ≡ Verdict.Fine → C
no_text e = absurd (let z : ◌≡◌ {A = ℕ} 0 1 = cc in omega arith)

no_time : {C : Type 0} → Verdict.Time ≡ Verdict.Fine → C
no_time e = absurd (let z : ◌≡◌ {A = ℕ} 0 1 = cc in omega arith)

no_broken : {C : Type 0} → Verdict.Broken ≡ Verdict.Fine → C
no_broken e = absurd (let z : ◌≡◌ {A = ℕ} 0 1 = cc in omega arith)

pub whole : (s : List ℕ) → JudgedMessage s → Whole s
unfolding feed field_rows
whole s J = go (tree feed feed_message s) refl J
  where
    go : (o : Option Tree) → tree feed feed_message s ≡ o → asked rules feed_message o ≡ Verdict.Fine → Whole s
    go none p j = no_broken j
    go (some m) p j = texts? (texts_fine rules feed_message m) refl j
      where
        numbers? : (b : Bool) → numbers_fine rules feed_message m ≡ b → texts_fine rules feed_message m ≡ true
            → cond b Verdict.Fine Verdict.Time ≡ Verdict.Fine → Whole s
        numbers? true n t i =
            record {
              message = m;
              read = p;
              fine = fine_rep feed rules feed_message 2 feed_entity refl m
                  (tree_fine feed rules feed_message s m p t n);
            }
        numbers? false n t i = no_time i

        texts? : (b : Bool) → texts_fine rules feed_message m ≡ b
            → cond b (cond (numbers_fine rules feed_message m) Verdict.Fine Verdict.Time) Verdict.Text ≡ Verdict.Fine
            → Whole s
        texts? true t i = numbers? (numbers_fine rules feed_message m) refl t i
        texts? false t i = no_text i

-- the texts of an entity's trip are short
text_short : (o : Option Leaf) (f : ℕ) → Given (LeafFine feed rules trip_descriptor f) o
    → length (text_in o) ≤ limit_by 64 trip_descriptor f
text_short none f g = omega arith
text_short (some (count n)) f g = omega arith
text_short (some (words x)) f g =
    leb-true (length x) (limit_by 64 trip_descriptor f)
    (both_true (leb (length x) (limit_by 64 trip_descriptor f)) (in_class printable x) g).0

module _ (e : Tree) (F : FineEntity e) where
  short : (f : ℕ) → length (text_in (last f (sub 1 (sub 3 e)))) ≤ limit_by 64 trip_descriptor f
  unfolding feed field_rows
  short f =
      text_short (last f (sub 1 (sub 3 e))) f
      (fine_last feed rules trip_descriptor f (sub 1 (sub 3 e))
      (fine_sub feed rules trip_update 1 trip_descriptor refl (sub 3 e)
      (fine_sub feed rules feed_entity 3 trip_update refl e F)))

  pub entity_fine : (s : List ℕ) (i l : ℕ) → tree feed feed_entity (take l (drop i s)) ≡ some e
      → entity.FineEntity s i l
  entity_fine s i l p = record { entity = e; read = p; id = short 1; date = short 3; time = short 2; route = short 5 }

-- ---- an entity's entries with their place stand for its record

module _ (f : Place → held.Trip) (p : Place) (t : held.Trip) (h : f p ≡ t) where
  one : (k : List ℕ) → map_values f (placed_at p ((k, t) ∷ [])) ≡ (k, t) ∷ []
  one k = ap (λ x. (k, x) ∷ []) h

  placed_inserts : (name raw : List ℕ) → map_values f (placed_at p (inserts name raw t)) ≡ inserts name raw t
  placed_inserts name [] = go (is_empty (held.route_of t))
    where
      go : (b : Bool)
          → map_values f (placed_at p (cond b [] ((incomplete_key name t, t) ∷ []))) ≡ cond b []
          ((incomplete_key name t, t) ∷ [])
      go true = refl
      go false = one (incomplete_key name t)
  placed_inserts name (b ∷ raw) = go (is_empty (held.date_of t))
    where
      dated : List ℕ
      dated = dated_key (b ∷ raw) (held.date_of t)

      go : (c : Bool)
          → map_values f (placed_at p (cond c ((b ∷ raw, t) ∷ []) ((dated, t) ∷ (b ∷ raw, t) ∷ []))) ≡ cond c
          ((b ∷ raw, t) ∷ []) ((dated, t) ∷ (b ∷ raw, t) ∷ [])
      go true = one (b ∷ raw)
      go false = ap (λ x. (dated, x) ∷ (b ∷ raw, x) ∷ []) h

placed_all : (P : Place → Type 0) (p : Place) (l : Trips) → P p → All (λ e. P e.1) (placed_at p l)
placed_all P p [] h = tt
placed_all P p (e ∷ l) h = (h, placed_all P p l h)

module _ (s : List ℕ) (i l : ℕ) (e : Tree) (r : tree feed feed_entity (take l (drop i s)) ≡ some e) (low : i < beyond)
  where
    pub stands_for : (o : List ℕ) → held_at s o (i, i + l) ≡ trip_in e
    unfolding record_at
    stands_for o = rw (lt-ltb i beyond low) (ap (λ x. trip_in (or_end x)) (read_at feed_entity s i l e r))

    -- THE INDEX AFTER AN ENTITY, by what its places stand for
    pub held_applied : (o name : List ℕ) (m : List (List ℕ × Place))
        → held s o (entity.applied name e (i, i + l) m) ≡ puts texts (entries_in name e) (held s o m)
    unfolding held entries_in
    held_applied o name m =
        map_puts texts (held_at s o) (placed_at (i, i + l) (entries_in name e)) m
        ∙ ap (λ x. puts texts x (map_values (held_at s o) m)) (go (deleted e))
      where
        go : (b : Bool)
            → map_values (held_at s o) (placed_at (i, i + l) (cond b [] (inserts name (trip e).id (trip_in e))))
            ≡ cond b
            [] (inserts name (trip e).id (trip_in e))
        go true = refl
        go false = placed_inserts (held_at s o) (i, i + l) (trip_in e) (stands_for o) name (trip e).id

    pub applied_fit : (o name : List ℕ) (m : List (List ℕ × Place)) → i + l ≤ length s → AllFit s o m
        → AllFit s o (entity.applied name e (i, i + l) m)
    applied_fit o name m h F =
        puts_all texts (λ x. Fit s o x.1) (placed_at (i, i + l) (entries_in name e)) m
        (placed_all (Fit s o) (i, i + l) (entries_in name e)
        (record { new = λ _. readable_at feed_entity s i l e r h; old = λ q. not_old q; calm = λ q. not_old q })) F
      where
        not_old : {C : Type 0} → is_new (i, i + l) ≡ false → C
        not_old q = absurd (false≢true (sym q ∙ lt-ltb i beyond low))

pub held_length : (s o : List ℕ) (m : List (List ℕ × Place)) → length (held s o m) ≡ length m
unfolding held
held_length s o m = map_length (held_at s o) m

-- ---- the loop

-- the index so far, from the one at the start, m₀: with what is left it gives what the whole gives
pub record Going (name s : List ℕ) (m₀ : List (List ℕ × Place)) (keys marks order : List ℕ) (n : ℕ) (w : Walk) : Type
    0 where
  pub sound : SoundIndex keys marks order n
  pub few : n ≤ 2048
  pub walk : walks.SoundWalk s w.outer w.end w.at
  pub rest : List Tree
  pub left : left_entities s w ≡ some rest
  pub fine : All FineEntity rest
  pub fit : (o : List ℕ) → AllFit s o m₀ → AllFit s o (index keys marks order n)
  pub same : (o : List ℕ)
      → puts texts (entries name rest) (held s o (index keys marks order n)) ≡ with_entities name s (held s o m₀)

pub message_is : {s : List ℕ} (W : Whole s) → message_tree s ≡ W.message
message_is W = ap or_end W.read

pub starts : {s keys marks order : List ℕ} {n : ℕ} {w : Walk} (name : List ℕ) → SoundIndex keys marks order n
    → n ≤ 2048 → JudgedMessage s → w ≡ at_plain s
    → Going name s (index keys marks order n) keys marks order n w
starts {s} {keys} {marks} {order} {n} name S c J e =
    let W = whole s J in
    record {
      sound = S;
      few = c;
      walk = plain_sound e;
      rest = rep 2 W.message;
      left = entities_left s e ∙ ap (map (rep 2)) W.read;
      fine = W.fine;
      fit = λ o F. F;
      same = λ o. ap (λ m. puts texts (entries name (rep 2 m)) (held s o (index keys marks order n)))
          (sym (message_is W));
    }

module _ {name s : List ℕ} {m₀ : List (List ℕ × Place)} {keys marks order : List ℕ} {n : ℕ} {w : Walk}
    (G : Going name s m₀ keys marks order n w) where
  -- nothing is left
  pub done : {r : Item} → NextEntity s w r → r ≡ Item.Done → Indexed name s m₀ keys marks order n
  unfolding entries
  done Y e =
      let z : G.rest ≡ [] = yielded Y e G.rest G.left in
      record {
        sound = G.sound;
        few = λ h o. ap (λ l. puts texts (entries name l) (held s o (index keys marks order n))) (sym z) ∙ G.same o;
        many = λ h. absurd (omega (arith, G.few));
        fit = λ h. G.fit;
      }

  -- an entity of l bytes at i, and the walk behind it
  module _ {r : Item} {i l : ℕ} {w' : Walk} (Y : NextEntity s w r) (E : r ≡ Item.At i l w')
      (long : length s ≤ 1048576) where
    first : Yield feed feed_message 0 feed_message 2 feed_entity s G.rest (Item.At i l w')
    first = yielded Y E G.rest G.left

    fines : All FineEntity (first.0 ∷ first.1)
    fines = subst (All FineEntity) first.2 G.fine

    pub entity_inside : i + l ≤ length s
    entity_inside = (found Y E).inside

    low : i < beyond
    low = omega (arith, entity_inside)

    pub entity_read : entity.FineEntity s i l
    entity_read = entity_fine first.0 fines.0 s i l first.3

    apart : (o : List ℕ)
        → puts texts (entries name first.1)
        (puts texts (entries_in name first.0) (held s o (index keys marks order n))) ≡ with_entities name s
        (held s o m₀)
    unfolding entries
    apart o =
        sym (puts_append texts (entries_in name first.0) (entries name first.1)
        (held s o (index keys marks order n)))
        ∙ ap (λ x. puts texts (entries name x) (held s o (index keys marks order n))) (sym first.2) ∙ G.same o

    module _ {keys' marks' order' : List ℕ} {m : ℕ} (A : Applies name s i l keys marks order n keys' marks' order' m)
      where
        pub on : m ≤ 2048 → Going name s m₀ keys' marks' order' m w'
        on h =
            let e = first.0 in
            let x = (A.of e first.3).few h in
            record {
              sound = A.sound;
              few = h;
              walk = (found Y E).sound;
              rest = first.1;
              left = first.4;
              fine = fines.1;
              fit = λ o F. subst (AllFit s o) (sym x)
                  (applied_fit s i l e first.3 low o name (index keys marks order n) entity_inside (G.fit o F));
              same = λ o. ap (λ y. puts texts (entries name first.1) (held s o y)) x
                  ∙ ap (puts texts (entries name first.1))
                  (held_applied s i l e first.3 low o name (index keys marks order n)) ∙ apart o;
            }

        pub over : 2048 < m → Indexed name s m₀ keys' marks' order' m
        over h =
            let e = first.0 in
            let long' : (o : List ℕ)
            → 2048 < length (puts texts (entries_in name e) (held s o (index keys marks order n))) = λ o.
            rw (
              ← held_applied s i l e first.3 low o name (index keys marks order n),
              held_length s o
                  (entity.applied name e (i, i + l) (index keys marks order n)),
            ) ((A.of e first.3).many h) in
            record {
              sound = A.sound;
              few = λ k. absurd (omega arith);
              many = λ k o. rw (← apart o) (omega (
                arith,
                long' o,
                puts_longer texts (entries name first.1)
                    (puts texts (entries_in name e) (held s o (index keys marks order n))),
              ));
              fit = λ k. absurd (omega arith);
            }
