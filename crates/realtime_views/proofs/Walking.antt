-- A turn of the loop of `next_item`, on plain values. Assumes nothing.
use Rattle.std.specs.Prelude.{Some, None}
use Prim.Native.Nat.{ℕ, ◌+◌, ◌-◌, ◌≤◌, ◌<◌}
use mathlib.Core.Path.{◌≡◌, refl, sym, ap, ◌∙◌}
use mathlib.Core.List.{List, ◌∷◌, ◌++◌}
use mathlib.Core.Option.{Option, none, some}
use native.Mathlib.Omega.{arith}
use lib.ListN.{length, take, drop, length-take}
use Rattle.basics.specs.Laws.Options.{none_some}
use Rattle.realtime.specs.Tree.{Tree, tree, join, sub, rep}
use Rattle.realtime.specs.Schema.{field_rows, feed, feed_message, feed_entity, trip_update, stop_time_update}
use Rattle.realtime_views.specs.Laws.Reading.{front_part, front_rest}
use Rattle.realtime_views.specs.Laws.Seeks.{sub_first, sub_none, rep_join}
use Rattle.realtime_views.specs.Promises.Seeks.{Holding, Seeks}
use Rattle.realtime_views.specs.Promises.Walks.{left_of, left, SoundWalk, ahead, NextItem, NextEntity, NextUpdate}
use Rattle.realtime_views.specs.declared.Walk.{Walk}
use Rattle.realtime_views.specs.declared.Item.{Item}

-- the loop stands at these places, and what was left at the start is left here
pub record Leads (a k : ℕ) (s : List ℕ) (w : Walk) (outer end at : ℕ) : Type 0 where
  pub of : (t u v : ℕ) → Holding feed t a u → Holding feed u k v → (l : List Tree) → left feed t a u k s w ≡ some l
      → left_of a k (tree feed u (drop at (take end s))) (tree feed t (drop outer s)) ≡ some l
  pub sound : SoundWalk s outer end at
  pub fewer : length s - outer + (length s - at) ≤ ahead s w

-- with the trees of the message that is open and of what stands behind it in view
in_view : {P : Type 0} (a k : ℕ) (i o : Option Tree) (l : List Tree) → left_of a k i o ≡ some l
    → ((m n : Tree) → i ≡ some m → o ≡ some n → l ≡ rep k m ++ rep k (sub a n) → P) → P
in_view a k none o l e p = none_some e
in_view a k (some m) none l e p = none_some e
in_view a k (some m) (some n) l e p =
    let q : l ≡ rep k (join m (sub a n)) = cc in
    p m n refl refl (q ∙ rep_join k m (sub a n))

module _ {a k : ℕ} {s : List ℕ} {w : Walk} {outer stop at : ℕ} (L : Leads a k s w outer stop at) {x : List ℕ}
    (X : x ≡ take stop s) where
  size : length x ≡ stop
  size = ap length X ∙ length-take stop s ∙ omega (arith, L.sound)

  -- what is left, by the bytes of the message that is open
  left_here : {P : Type 0} (t u v : ℕ) → Holding feed t a u → Holding feed u k v → (l : List Tree)
      → left feed t a u k s w ≡ some l
      → ((y z : Tree) → tree feed u (drop at x) ≡ some y → tree feed t (drop outer s) ≡ some z
      → l ≡ rep k y ++ rep k (sub a z) → P) → P
  left_here t u v H G l e =
      in_view a k (tree feed u (drop at x)) (tree feed t (drop outer s)) l
      (ap (λ y. left_of a k (tree feed u (drop at y)) (tree feed t (drop outer s))) X ∙ L.of t u v H G l e)

  pub yields : {i m n : ℕ} → Seeks feed k x at (Some (i, m, n))
      → NextItem a k s w (Item.At i m (record { outer = outer; end = stop; at = n }))
  yields {i} {m} {n} S = record {
    of = λ t u v H G l e.
        left_here t u v H G l e (λ y z p q r.
        let (c, b, f, g, h) = S.of u v G y p in (
          c,
          rep k (join b (sub a z)),
          r ∙ ap (λ j. j ++ rep k (sub a z)) f ∙ ap (λ j. c ∷ j) (sym (rep_join k b (sub a z))),
          ap (tree feed v) (sym inner) ∙ g,
          ap (λ y. left_of a k (tree feed u (drop n y)) (tree feed t (drop outer s))) (sym X)
              ∙ ap (λ j. left_of a k j (tree feed t (drop outer s))) h ∙ ap (left_of a k (some b)) q,
        ));
    lying = record {
      inside = omega (arith, S.lying, size, L.sound);
      sound = record {
        ahead = omega (arith, S.lying, size);
        behind = L.sound.behind;
        inside = L.sound.inside;
      };
      less = omega (arith, S.lying, size, L.fewer, L.sound);
    };
  }
    where
      inner : take m (drop i x) ≡ take m (drop i s)
      inner = ap (λ y. take m (drop i y)) X
          ∙ front_part s stop i m (omega (arith, S.lying, size)) (omega (arith, L.sound))

  -- the message that is open has no more
  module _ (E : Seeks feed k x at None) where
    pub all_done : Seeks feed a s outer None → NextItem a k s w Item.Done
    all_done S = record {
      of = λ t u v H G l e.
          left_here t u v H G l e (λ y z p q r.
          r ∙ ap (λ j. j ++ rep k (sub a z)) (E.of u v G y p) ∙ ap (rep k) (sub_none a z (S.of t u H z q)));
      lying = tt;
    }

    module _ {i m n : ℕ} (S : Seeks feed a s outer (Some (i, m, n))) where
      pub opens_less : length s - n + (length s - i) < length s - outer + (length s - at)
      opens_less = omega (arith, S.lying, L.sound)

      pub opens : Leads a k s w n n i
      opens = record {
        of = λ t u v H G l e. left_here t u v H G l e (λ y z p q r.
            let (c, b, f, g, h) = S.of t u H z q in
            ap (λ j. left_of a k (tree feed u j) (tree feed t (drop n s)))
            (front_rest s n i m S.lying.ends S.lying.inside)
            ∙ ap (λ j. left_of a k j (tree feed t (drop n s))) g ∙ ap (left_of a k (some c)) h
            ∙ ap some
            (sym
            (r ∙ ap (λ j. j ++ rep k (sub a z)) (E.of u v G y p) ∙ ap (rep k) (sub_first a z c b f))));
        sound = record { ahead = omega (arith, S.lying); behind = omega arith; inside = S.lying.inside };
        fewer = omega (arith, opens_less, L.fewer);
      }

-- the types of the wrappers' items
pub next_entity : {s : List ℕ} {w : Walk} {r : Item} → NextItem 0 2 s w r → NextEntity s w r
unfolding feed field_rows
next_entity N = record {
  of = N.of feed_message feed_message feed_entity (λ z. absurd (z refl)) (λ z. refl);
  lying = N.lying;
}

pub next_update : {s : List ℕ} {w : Walk} {r : Item} → NextItem 3 2 s w r → NextUpdate s w r
unfolding feed field_rows
next_update N = record {
  of = N.of feed_entity trip_update stop_time_update (λ z. refl) (λ z. refl);
  lying = N.lying;
}
