-- `updates_of` on plain values: what is left of the updates, noted over those so far. Assumes nothing.
use Prim.Native.Nat.{ℕ, ◌+◌, ◌≤◌, ◌<◌}
use mathlib.Core.Path.{◌≡◌, refl, ap, ◌∙◌}
use mathlib.Core.List.{List, map}
use mathlib.Core.Option.{some}
use native.Mathlib.Omega.{arith}
use lib.ListN.{length, take, drop}
use Rattle.basics.specs.Lists.{All}
use Rattle.realtime.specs.Tree.{Tree, tree}
use Rattle.realtime.specs.Schema.{feed, stop_time_update}
use Rattle.realtime.specs.Views.{stop_update}
use Rattle.realtime_views.specs.Promises.Views.{SequenceRead}
use Rattle.realtime_views.specs.Promises.Walks.{NextUpdate}
use Rattle.realtime_views.specs.Promises.Starts.{at_merged}
use Rattle.realtime_views.specs.declared.Walk.{Walk}
use Rattle.realtime_views.specs.declared.Item.{Item}
use Rattle.decode.specs.Trip.{StopUpdate}
use Rattle.maps.specs.Map.{put, puts}
use Rattle.maps.specs.Order.{numbers}
use Rattle.maps.proofs.Laws.Map.{map_put, map_length, puts_longer, put_all}
use Rattle.decode.specs.Record.{update_in, updates_in}
use Rattle.decode_updates.specs.Line.{laid}
use Rattle.decode_updates.specs.Laws.Line.{laid_length}
use Rattle.decode_updates.specs.Promises.Line.{Lined, Noted}
use Rattle.decode_slots.specs.Index.{Place}
use Rattle.decode_slots.specs.Places.{or_end, update_at}
use Rattle.decode_slots.specs.Promises.Places.{Readable}
use Rattle.decode_slots.specs.Laws.Places.{read_at, readable_at}
use Rattle.decode_updates.specs.Updates.{updates_at}
use Rattle.decode_updates.specs.Promises.Updates.{ListedUpdates}
use Rattle.realtime_views.specs.Laws.Turns.{walks_on, ends, there}
use Rattle.decode_updates.proofs.Walking.{Walked, starts}

-- an update with its sequence
abbrev pub pair : Tree → ℕ × StopUpdate
pair t = ((stop_update t).sequence, update_in t)

abbrev AllReadable : List ℕ → List (ℕ × Place) → Type 0
AllReadable s m = All (λ x. Readable stop_time_update s x.1) m

-- THE INVARIANT: those that are left, noted over those in u, are the updates of the entity
pub record Listing (s : List ℕ) (start len : ℕ) (u : List ℕ) (n : ℕ) (w : Walk) : Type 0 where
  pub lined : Lined u n
  pub walked : Walked s start len
      (λ e l. (puts numbers (map pair l) (updates_at s (laid n u)) ≡ updates_in e) × AllReadable s (laid n u)) w

pub listing : (s : List ℕ) (start len : ℕ) {u : List ℕ} {w : Walk} → start + len ≤ length s → length u ≡ 387
    → w ≡ at_merged start → Listing s start len u 0 w
unfolding updates_in
listing s start len i h e = record {
  lined = record { counted = omega arith; long = h; ascends = refl };
  walked = starts s start len i e (λ t. (refl, tt));
}

update_at_holds : (s : List ℕ) (i l : ℕ) (m : Tree) → tree feed stop_time_update (take l (drop i s)) ≡ some m
    → update_at s (i, i + l) ≡ update_in m
unfolding update_at
update_at_holds s i l m e = ap (λ o. update_in (or_end o)) (read_at stop_time_update s i l m e)

module _ {s : List ℕ} {start len : ℕ} {u : List ℕ} {n : ℕ} {w : Walk} (L : Listing s start len u n w) where
  -- too many, whatever is left
  pub lists_many : 128 < n → ListedUpdates s start len u n
  lists_many h = record {
    lined = L.lined;
    of = λ e q.
        let F = L.walked.of e q in
        record {
          few = λ g. absurd (omega arith);
          many = λ _.
              let longer = puts_longer numbers (map pair F.trees) (updates_at s (laid n u)) in
              omega (arith, ap length F.holds.0, map_length (update_at s) (laid n u), laid_length n u);
          readable = F.holds.1;
        };
  }

  module _ {x : List ℕ} (X : x ≡ take (start + len) s) {r : Item} (N : NextUpdate x w r) where
    -- no update is left
    pub listed : r ≡ Item.Done → n ≤ 128 → ListedUpdates s start len u n
    listed d h = record {
      lined = L.lined;
      of = λ e q.
          let x = ends L.walked X N d e q in
          record { few = λ _. x.0; many = λ g. absurd (omega arith); readable = x.1 };
    }

    -- the next is noted
    pub lists_on : {i l q n' : ℕ} {w' : Walk} {u' : List ℕ} → r ≡ Item.At i l w' → SequenceRead feed s i l q
        → Noted u n q i (i + l) u' n' → Listing s start len u' n' w'
    lists_on {i} {l} {q} {n'} {w'} {u'} a Q M = record {
      lined = M.lined;
      walked =
          let m = updates_at s (laid n u) in
          let noted : (t : Tree) → tree feed stop_time_update (take l (drop i s)) ≡ some t
          → updates_at s (laid n' u') ≡ put numbers (stop_update t).sequence (update_in t) m = λ t y.
          ap (updates_at s) M.map ∙ map_put numbers (update_at s) q (i, i + l) (laid n u)
          ∙ ap (λ v. put numbers q v m) (update_at_holds s i l t y)
          ∙ ap (λ v. put numbers v (update_in t) m) (Q.of t y) in
          let read : (t : Tree) → tree feed stop_time_update (take l (drop i s)) ≡ some t → AllReadable s (laid n u)
          → AllReadable s (laid n' u') = λ t y h.
          rw M.map (put_all numbers (λ x. Readable stop_time_update s x.1) q (i, i + l) (laid n u)
          (readable_at stop_time_update s i l t y (there L.walked X N a)) h) in
          walks_on L.walked X N a (λ e t k q y p.
          (ap (puts numbers (map pair k)) (noted t y) ∙ p.0, read t y p.1));
    }
