-- `count_updates` on plain values: those so far and those that are left. Assumes nothing.
use Prim.Native.Nat.{ℕ, ◌+◌, ◌≤◌}
use mathlib.Core.Path.{◌≡◌, sym}
use mathlib.Core.Bool.{false}
use mathlib.Core.List.{List, [], map}
use native.Mathlib.Omega.{arith}
use lib.ListN.{length, take, length-map}
use borrow.Author.Tests.{le-ltb}
use Rattle.realtime.specs.Tree.{sub, rep}
use Rattle.realtime_views.specs.Promises.Walks.{NextUpdate}
use Rattle.realtime_views.specs.Promises.Starts.{at_merged}
use Rattle.realtime_views.specs.declared.Walk.{Walk}
use Rattle.realtime_views.specs.declared.Item.{Item}
use Rattle.maps.specs.Order.{numbers}
use Rattle.maps.proofs.Laws.Map.{puts_most}
use Rattle.decode.specs.Record.{updates_in, trip_in}
use Rattle.decode_updates.specs.Promises.Updates.{Counted, CrowdedRead}
use Rattle.realtime_views.specs.Laws.Turns.{walks_on, ends}
use Rattle.decode_updates.proofs.Walking.{Walked, starts}
use Rattle.decode_updates.proofs.Listing.{pair}

-- THE INVARIANT
pub record Counting (s : List ℕ) (start len n : ℕ) (w : Walk) : Type 0 where
  pub most : n ≤ 129
  pub walked : Walked s start len (λ e l. n + length l ≡ length (rep 2 (sub 3 e))) w

pub counting : (s : List ℕ) (start len : ℕ) {w : Walk} → start + len ≤ length s → w ≡ at_merged start
    → Counting s start len 0 w
counting s start len i e = record { most = omega arith; walked = starts s start len i e (λ t. omega arith) }

module _ {s : List ℕ} {start len n : ℕ} {w : Walk} (W : Counting s start len n w) where
  -- too many, whatever is left
  pub counts_many : 129 ≤ n → Counted s start len 129
  counts_many h = record { of = λ e q. omega (arith, W.most, (W.walked.of e q).holds) }

  module _ {x : List ℕ} (X : x ≡ take (start + len) s) {r : Item} (N : NextUpdate x w r) where
    pub counted : r ≡ Item.Done → n ≤ 128 → Counted s start len n
    counted d h = record { of = λ e q. omega (arith, ends W.walked X N d e q) }

    pub counts_on : {i l : ℕ} {w' : Walk} → r ≡ Item.At i l w' → n ≤ 128 → Counting s start len (n + 1) w'
    counts_on a h = record { most = omega arith; walked = walks_on W.walked X N a (λ e t k q y p. omega (arith, p)) }

-- no more than 128 are no more at their sequences
pub crowded_counted : {s : List ℕ} {start len r : ℕ} → Counted s start len r → r ≤ 128 → CrowdedRead s start len false
unfolding trip_in updates_in
crowded_counted C h = record {
  of = λ e q. sym (le-ltb 128 (length (updates_in e))
      (omega (
        arith,
        C.of e q,
        puts_most numbers (map pair (rep 2 (sub 3 e))) [],
        length-map (rep 2 (sub 3 e))
            pair,
      )));
}
