-- The first message at a field, and whether an entity's alert counts, on plain values. Assumes nothing.
use Prim.Native.Nat.{ℕ, ◌+◌, ◌≤◌}
use mathlib.Core.Path.{◌≡◌, refl, sym, ap, subst, ◌∙◌}
use mathlib.Core.List.{List}
use mathlib.Core.Bool.{Bool, true, false, not, ◌&&◌}
use native.Mathlib.Omega.{arith}
use lib.ListN.{length, take, length-take}
use Rattle.basics.specs.Lists.{is_empty}
use Rattle.basics.specs.Options.{some_and}
use Rattle.realtime.specs.Tree.{Tree, rep}
use Rattle.realtime.specs.Schema.{field_rows, feed, alert_entity, alert}
use Rattle.realtime.specs.Typed.{bool, number_in}
use Rattle.realtime_views.specs.declared.Scalar.{Scalar}
use Rattle.realtime_views.specs.declared.Walk.{Walk}
use Rattle.realtime_views.specs.declared.Item.{Item}
use Rattle.realtime_views.specs.Promises.Scalars.{said, OneRead}
use Rattle.realtime_views.specs.Promises.Starts.{at_items}
use Rattle.realtime_views.specs.Promises.Seeks.{Holding}
use Rattle.realtime_views.specs.Promises.Walks.{left, Lying, NextItem, SoundWalk, Yields}
use Rattle.realtime_views.specs.Laws.Starts.{items_sound, left_items}
use Rattle.realtime_views.specs.Laws.Turns.{Walked, front_length, starts, walks, ends, walks_on}
use Rattle.alerts_views.specs.Promises.Views.{LeftRead}
use Rattle.alerts_views.specs.Promises.Words.{First, FirstRead, DeletedRead}

-- the walk in one message: all of its messages at field k are left
module _ (k : ℕ) (s : List ℕ) (i l : ℕ) {w : Walk} (h : i + l ≤ length s) (e : w ≡ at_items i (i + l)) where
  items_walked : (t : ℕ) → Walked feed t 0 t k t s i l (λ m z. z ≡ rep k m) w
  items_walked t =
      starts s i l (rep k) h
      (items_sound i (i + l) (omega arith) (omega (arith, front_length s (i + l) h)) e)
      (ap (left feed t 0 t k (take (i + l) s)) e ∙ left_items feed t 0 t k s i l h) (λ m. refl)

  pub first_walks : {x : List ℕ} → x ≡ take (i + l) s → SoundWalk x w.outer w.end w.at
  first_walks X = walks (items_walked 0) X

  pub first_read : {x : List ℕ} {r : Item} → x ≡ take (i + l) s → NextItem 0 k x w r → FirstRead k s i l r
  first_read {x} {r} X N = go r refl
    where
      one : (t v : ℕ) → Holding feed t k v → Yields feed t 0 t k v x w r
      one t v H = record { of = N.of t t v (λ z. absurd (z refl)) H; lying = N.lying }

      go : (r' : Item) → r ≡ r' → FirstRead k s i l r'
      go (Item.At j n w') a = record {
        of = λ t v H m q. ((walks_on (items_walked t) X (one t v H) a
            {Q = λ m z. First v s (rep k m) (Item.At j n w')}
            (λ m y z p o f. (y, z, sym f, o))).of m q).holds;
        inside = omega (arith, (subst (Lying x w) a N.lying).inside, ap length X, length-take (i + l) s);
      }
      go Item.Done d =
          record { of = λ t v H m q. sym (ends (items_walked t) X (one t v H) d m q); inside = tt }

-- is_deleted, by its scalar
abbrev pub marked : Scalar → Bool
marked (Scalar.Number n) = bool n
marked (Scalar.Text i l) = false
marked Scalar.Nothing = false

marked_says : (s : List ℕ) (x : Scalar) → marked x ≡ some_and bool (number_in (said s x))
marked_says s (Scalar.Number n) = refl
marked_says s (Scalar.Text i l) = refl
marked_says s Scalar.Nothing = refl

pub deleted_read : {s : List ℕ} {i l : ℕ} {x : Scalar} {r : Bool} → OneRead 2 s i l x → r ≡ marked x
    → DeletedRead s i l r
unfolding feed field_rows
deleted_read {s} {x = x} S e =
    record { of = λ m q. e ∙ marked_says s x ∙ ap (λ o. some_and bool (number_in o)) ((S alert_entity refl).of m q) }

-- an entity that is deleted, and one that is not
pub left_deleted : {s : List ℕ} {i l : ℕ} {d : Bool} → DeletedRead s i l d → d ≡ true → LeftRead s i l false
left_deleted D e =
    record { of = λ m q. ap (λ b. not b && not (is_empty (rep 5 m))) (sym e ∙ D.of m q) }

abbrev pub is_item : Item → Bool
is_item (Item.At i l w) = true
is_item Item.Done = false

first_given : (v : ℕ) (s : List ℕ) (z : List Tree) (r : Item) → First v s z r → is_item r ≡ not (is_empty z)
first_given v s z (Item.At i l w) (y, u, e, o) = ap (λ c. not (is_empty c)) (sym e)
first_given v s z Item.Done e = ap (λ c. not (is_empty c)) (sym e)

pub left_read : {s : List ℕ} {i l : ℕ} {d : Bool} {x : Item} {r : Bool} → DeletedRead s i l d → d ≡ false
    → FirstRead 5 s i l x → r ≡ is_item x → LeftRead s i l r
unfolding feed field_rows
left_read {s} {x = x} D e F g = record {
  of = λ m q. g ∙ first_given alert s (rep 5 m) x (F.of alert_entity alert (λ z. refl) m q)
      ∙ ap (λ b. not b && not (is_empty (rep 5 m))) (sym e ∙ D.of m q);
}
