-- The answers that stand for an entity's updates. Assumes nothing.
use Prim.Native.Nat.{ℕ, ◌+◌, ◌-◌, ◌≤◌, ◌<◌}
use mathlib.Core.Path.{◌≡◌, refl, sym, ap, ◌∙◌}
use mathlib.Core.Bool.{true, false, cond}
use mathlib.Core.List.{List}
use native.Mathlib.Omega.{arith}
use lib.Dec.{eqb, leb}
use lib.ListN.{length}
use borrow.Author.Tests.{eq-eqb, ne_eqb, le-leb, lt-leb, lt-ltb, le-ltb}
use Rattle.realtime.specs.Tree.{tree}
use Rattle.realtime.specs.Schema.{feed, feed_entity}
use Rattle.decode.specs.Trip.{StopUpdate}
use Rattle.decode.specs.Record.{updates_in}
use Rattle.maps.proofs.Laws.Map.{map_length}
use Rattle.decode_slots.specs.Places.{update_at}
use Rattle.decode_updates.specs.Line.{laid}
use Rattle.decode_updates.specs.Laws.Line.{laid_length}
use Rattle.decode_updates.specs.Updates.{updates_at}
use Rattle.decode_updates.specs.Promises.Updates.{ListedUpdates}
use Rattle.decode_probes.specs.Answers.{of_whole}
use Rattle.decode_probes.specs.Promises.Answers.{is_whole}
use Rattle.decode_probes.specs.Indexing.{IndexOutcome, refused, left, answered, limited, updates_outcome}
use Rattle.decode_probes.proofs.Reading.{of_whole_holds, of_broken, all_of}

module _ (n : ℕ) (e : List ℕ) where
  pub updates_unfit : (n ≡ 387 → ⊥) → refused 1 ≡ updates_outcome (eqb n 387) e
  updates_unfit h =
      ap (λ b. cond b (cond (leb (length e) 1048576)
      (of_whole (refused 4) (λ m. limited (updates_in m)) (tree feed feed_entity e)) (refused 3)) (refused 1))
      (sym (ne_eqb n 387 h))

  module _ (f : n ≡ 387) where
    pub updates_long : 1048576 < length e → refused 3 ≡ updates_outcome (eqb n 387) e
    updates_long h = sym (rw (eq-eqb n 387 f, lt-leb (length e) 1048576 h) refl)

    module _ (l : length e ≤ 1048576) where
      judged : {r : IndexOutcome (List (ℕ × StopUpdate))}
          → r ≡ of_whole (refused 4) (λ m. limited (updates_in m)) (tree feed feed_entity e)
          → r ≡ updates_outcome (eqb n 387) e
      judged h = h ∙ sym (rw (eq-eqb n 387 f, le-leb (length e) 1048576 l) refl)

      pub updates_broken : is_whole (tree feed feed_entity e) ≡ false → refused 4 ≡ updates_outcome (eqb n 387) e
      updates_broken w = judged (of_broken (refused 4) (λ m. limited (updates_in m)) feed_entity e w)

      module _ {u : List ℕ} {r : ℕ} (w : is_whole (tree feed feed_entity e) ≡ true)
          (L : ListedUpdates e 0 (length e) u r) where
        pub updates_many : 128 < r → refused 7 ≡ updates_outcome (eqb n 387) e
        updates_many h =
            judged (of_whole_holds (refused 4) (λ m. limited (updates_in m)) feed_entity e w
            (λ m q. sym (rw (lt-ltb 128 (length (updates_in m)) ((L.of m (all_of feed_entity e q)).many h)) refl)))

        pub updates_few : r ≤ 128 → answered (λ i. updates_at e (laid i u)) (16 + r) ≡ updates_outcome (eqb n 387) e
        updates_few h =
            let i : 16 + r - 16 ≡ r = omega arith in
            judged (of_whole_holds (refused 4) (λ m. limited (updates_in m)) feed_entity e w
            (λ m q.
            let k = (L.of m (all_of feed_entity e q)).few h in
            let c : length (updates_in m) ≡ r = sym (ap length k) ∙ map_length (update_at e) (laid r u)
            ∙ laid_length r u in
            (λ j. cond (le-ltb (16 + r) 16 (omega arith) j) (refused (16 + r)) (left (updates_at e (laid (i j) u))))
            ∙ ap left k
            ∙ sym (rw (le-ltb 128 (length (updates_in m)) (omega arith)) refl)))
