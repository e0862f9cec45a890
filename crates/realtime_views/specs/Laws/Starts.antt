-- Law. What is left where a walk starts.
use Rattle.std.specs.Prelude.{ℕ, ◌+◌, ◌≤◌, ◌≡◌, refl, List, length, take, drop}
use Rattle.std.proofs.Common.{sym, ap, subst, ◌∙◌, arith, length-take, drop_of_length-le, take-take}
use Rattle.std.proofs.Math.Option.{Option, none, some, map}
use Rattle.std.proofs.Math.Seq.{take-length, drop-length}
use Rattle.realtime.specs.Tree.{Schema, Tree, end, num, txt, msg, tree, join, sub, rep}
use Rattle.realtime.proofs.Laws.Tree.{tree_nil}
use Rattle.realtime_views.specs.Laws.Reading.{front_rest}
use Rattle.realtime.specs.Schema.{feed, feed_message, feed_entity, trip_update}
use Rattle.realtime_views.specs.Laws.Walks.{left_entities, left_updates}
use Rattle.realtime_views.specs.Promises.Walks.{left_of, left, SoundWalk}
use Rattle.realtime_views.specs.declared.Walk.{Walk}
use Rattle.realtime_views.specs.Promises.Starts.{at_merged, at_items, at_plain}

pub left_merged : (σ : Schema) (t a u k : ℕ) (s : List ℕ) (i l : ℕ) → i + l ≤ length s
    → left σ t a u k (take (i + l) s) (at_merged i) ≡ map (λ m. rep k (sub a m)) (tree σ t (take l (drop i s)))
left_merged σ t a u k s i l h =
    let z : length (take i (take (i + l) s)) ≤ i = omega (arith, length-take i (take (i + l) s)) in
    ap (λ x. left_of a k (tree σ u x) (tree σ t (drop i (take (i + l) s))))
    (drop_of_length-le (take i (take (i + l) s)) z)
    ∙ ap (λ o. left_of a k o (tree σ t (drop i (take (i + l) s)))) (tree_nil σ u)
    ∙ ap (λ x. map (λ m. rep k (sub a m)) (tree σ t x)) (front_rest s (i + l) i l refl h)

join_end : (m : Tree) → join m end ≡ m
join_end end = refl
join_end (num f n t) = ap (num f n) (join_end t)
join_end (txt f x t) = ap (txt f x) (join_end t)
join_end (msg f u m t) = ap (msg f u m) (join_end t)

open_end : (a k : ℕ) (o : Option Tree) → left_of a k o (some end) ≡ map (rep k) o
open_end a k none = refl
open_end a k (some m) = ap (λ j. some (rep k j)) (join_end m)

pub left_plain : (σ : Schema) (t a u k : ℕ) (s : List ℕ)
    → left σ t a u k s (at_plain s) ≡ map (rep k) (tree σ u s)
left_plain σ t a u k s =
    ap (λ y. left_of a k (tree σ u y) (tree σ t (drop (length s) s))) (take-length s)
    ∙ ap (left_of a k (tree σ u s)) (ap (tree σ t) (drop-length s) ∙ tree_nil σ t) ∙ open_end a k (tree σ u s)

pub left_items : (σ : Schema) (t a u k : ℕ) (s : List ℕ) (i l : ℕ) → i + l ≤ length s
    → left σ t a u k (take (i + l) s) (at_items i (i + l)) ≡ map (rep k) (tree σ u (take l (drop i s)))
left_items σ t a u k s i l h =
    let z : length (take (i + l) s) ≤ i + l = omega (arith, length-take (i + l) s) in
    ap (λ o. left_of a k (tree σ u (drop i (take (i + l) (take (i + l) s)))) o)
    (ap (tree σ t) (drop_of_length-le (take (i + l) s) z) ∙ tree_nil σ t)
    ∙ open_end a k (tree σ u (drop i (take (i + l) (take (i + l) s))))
    ∙ ap (λ x. map (rep k) (tree σ u (drop i x))) (take-take (i + l) (i + l) s (omega arith))
    ∙ ap (λ x. map (rep k) (tree σ u x)) (front_rest s (i + l) i l refl h)

pub plain_sound : {s : List ℕ} {w : Walk} → w ≡ at_plain s → SoundWalk s w.outer w.end w.at
plain_sound {s} e =
    subst (λ w. SoundWalk s w.outer w.end w.at) (sym e)
    (record { ahead = omega arith; behind = omega arith; inside = omega arith })

pub merged_sound : {s : List ℕ} {w : Walk} (i : ℕ) → i ≤ length s → w ≡ at_merged i
    → SoundWalk s w.outer w.end w.at
merged_sound {s} i h e =
    subst (λ w. SoundWalk s w.outer w.end w.at) (sym e)
    (record { ahead = omega arith; behind = omega arith; inside = omega arith })

pub items_sound : {s : List ℕ} {w : Walk} (i n : ℕ) → i ≤ n → n ≤ length s → w ≡ at_items i n
    → SoundWalk s w.outer w.end w.at
items_sound {s} i n h g e =
    subst (λ w. SoundWalk s w.outer w.end w.at) (sym e)
    (record { ahead = h; behind = omega arith; inside = g })

-- THE ENTITIES of a message, and THE STOP TIME UPDATES of an entity: where a walk starts, all are left
pub entities_left : (s : List ℕ) {w : Walk} → w ≡ at_plain s
    → left_entities s w ≡ map (rep 2) (tree feed feed_message s)
entities_left s e = ap (left_entities s) e ∙ left_plain feed feed_message 0 feed_message 2 s

pub updates_left : (s : List ℕ) (i l : ℕ) {w : Walk} → i + l ≤ length s → w ≡ at_merged i
    → left_updates (take (i + l) s) w ≡ map (λ e. rep 2 (sub 3 e)) (tree feed feed_entity (take l (drop i s)))
updates_left s i l h e = ap (left_updates (take (i + l) s)) e ∙ left_merged feed feed_entity 3 trip_update 2 s i l h
