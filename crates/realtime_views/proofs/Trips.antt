-- A turn of the loops over a trip_update and over an entity: the last values of the trips and the last delay in one
-- walk. Assumes nothing.
use Rattle.std.specs.Prelude.{Option, Some, None}
use Prim.Native.Nat.{ℕ, ◌≤◌, ◌<◌}
use mathlib.Core.Path.{◌≡◌, refl, sym, ap, subst, ◌∙◌}
use mathlib.Core.List.{List, [], ◌∷◌}
use mathlib.Core.Option.{none}
use native.Mathlib.Omega.{arith}
use lib.ListN.{length, take, drop}
use Rattle.wire.specs.Promises.Places.{key_at, number_at, text_at, skipped_at}
use Rattle.wire.specs.declared.Cursor.{Cursor}
use Rattle.realtime.specs.Tree.{tree}
use Rattle.realtime.specs.Schema.{field_rows, feed, feed_entity, trip_update, trip_descriptor}
use Rattle.realtime_read.specs.Laws.Passing.{Passed}
use Rattle.realtime_read.specs.Promises.Steps.{Stepped}
use Rattle.realtime_read.specs.declared.Step.{Step}
use Rattle.realtime_views.specs.Promises.Fold.{inside}
use Rattle.realtime_views.specs.Promises.Last.{taking}
use Rattle.realtime_views.specs.Promises.Reading.{Ready, Reads}
use Rattle.realtime_views.specs.Promises.Seeks.{Seeks}
use Rattle.realtime_views.specs.Promises.Scalars.{scalar, scalars, blank, own, scalar_at, takes_along}
use Rattle.realtime_views.specs.Promises.Scalars.{UpdateReads, TripReads}
use Rattle.realtime_views.specs.declared.Scalar.{Scalar}
use Rattle.realtime_views.specs.declared.Scalars.{Scalars}
use Rattle.realtime_views.specs.declared.TripScalars.{TripScalars}
use Rattle.realtime_views.proofs.Reader.{Reading, ready, taken, taking_skips, inside_skips, passes_on}
use Rattle.realtime_views.proofs.Reader.{breaks_off, key_breaks, comes_to_end, sought_ends}
use Rattle.realtime_views.proofs.Reader.{sought_on}
use Rattle.realtime_views.proofs.Stops.{mine_number}
use Rattle.realtime_views.proofs.Wires.{keyed, number_none, number_passed, number_step, text_none, text_passed}
use Rattle.realtime_views.proofs.Wires.{message_step, other_none, other_passed, past_number, past_messages}

-- over a trip_update, over b
pub record Updates (s : List ℕ) (from : ℕ) (b : TripScalars) (at : ℕ) (d : Scalars) (u : Scalar) : Type 0 where
  pub trip : Reading scalars (takes_along (1 ∷ [])) feed trip_update s from b.trip at d
  pub delay : Reading scalar (taking (scalar_at 5)) feed trip_update s from b.delay at u

module _ {s : List ℕ} {from : ℕ} {b : TripScalars} {at : ℕ} {d : Scalars} {u : Scalar} (R : Updates s from b at d u)
  where
    pub updates_end : length s ≤ at → UpdateReads s from b (record { trip = d; delay = u })
    updates_end h = record { trip = comes_to_end R.trip h; delay = comes_to_end R.delay h }

    updates_break : tree feed trip_update (drop at s) ≡ none → UpdateReads s from b (record { trip = d; delay = u })
    updates_break h = record { trip = breaks_off R.trip h; delay = breaks_off R.delay h }

    module _ (h : at < length s) {o : Option (ℕ × ℕ × Cursor)} (k : o ≡ key_at s at) where
      pub updates_no_key : o ≡ None → UpdateReads s from b (record { trip = d; delay = u })
      updates_no_key g =
          record { trip = key_breaks R.trip h (sym g ∙ k); delay = key_breaks R.delay h (sym g ∙ k) }

      module _ {f w : ℕ} {c : Cursor} (g : o ≡ Some (f, w, c)) where
        -- a message, or a text: the trip is read
        module _ (z : w ≡ 2) {p : Option (ℕ × ℕ × Cursor)} (q : p ≡ text_at s c.at) where
          pub updates_no_text : p ≡ None → UpdateReads s from b (record { trip = d; delay = u })
          updates_no_text r = updates_break (text_none s h k g z q feed trip_update r)

          module _ {i l : ℕ} {a : Cursor} (r : p ≡ Some (i, l, a)) where
            over : Passed feed trip_update s at f a.at
            over = text_passed s h k g z q r feed trip_update

            step : f ≡ 1 → Stepped feed trip_update s at (Step.Message f trip_descriptor i l a.at)
            unfolding feed field_rows
            step v = message_step s h k g z q r feed trip_update (ap (feed trip_update) v)

            pub updates_ready : f ≡ 1 → {x : List ℕ} → x ≡ take a.at s → Ready scalars x i d
            updates_ready v {x} e = ready R.trip x (step v) e

            pub updates_trip : f ≡ 1 → {x : List ℕ} {y : Scalars} → x ≡ take a.at s
                → Reads scalars own feed trip_descriptor x i d y → Updates s from b a.at y u
            updates_trip v {x} e Q =
                record {
                  trip = taken 1 own R.trip x (step v) v e Q;
                  delay = passes_on R.delay over (taking_skips (scalar_at 5) (λ j. omega arith));
                }

            pub updates_text : (f ≡ 1 → ⊥) → Updates s from b a.at d u
            unfolding feed field_rows
            updates_text v =
                record {
                  trip = passes_on R.trip over (inside_skips 1 own v);
                  delay = past_number (scalar_at 5) R.delay h (keyed s h k g) over refl (λ j. omega arith);
                }

        -- a number: the delay is read
        module _ (z : w ≡ 0) {p : Option (ℕ × Cursor)} (q : p ≡ number_at s c.at) where
          pub updates_no_number : p ≡ None → UpdateReads s from b (record { trip = d; delay = u })
          updates_no_number r = updates_break (number_none s h k g z q feed trip_update r)

          module _ {m : ℕ} {a : Cursor} (r : p ≡ Some (m, a)) where
            across : Passed feed trip_update s at f a.at
            across = number_passed s h k g z q r feed trip_update

            pub updates_delay : f ≡ 5 → Updates s from b a.at d (Scalar.Number m)
            unfolding feed field_rows
            updates_delay v =
                record {
                  trip = passes_on R.trip across (inside_skips 1 own (λ j. omega arith));
                  delay = mine_number (scalar_at 5) R.delay
                      (number_step s h k g z q r feed trip_update (ap (feed trip_update) v)) v refl tt;
                }

            pub updates_number : (f ≡ 5 → ⊥) → Updates s from b a.at d u
            unfolding feed field_rows
            updates_number v =
                record {
                  trip = past_messages 1 own R.trip h (keyed s h k g) across refl (λ j. omega arith);
                  delay = passes_on R.delay across (taking_skips (scalar_at 5) v);
                }

        module _ (y : w ≡ 2 → ⊥) (z : w ≡ 0 → ⊥) {p : Option Cursor} (q : p ≡ skipped_at s c.at f w 16) where
          pub updates_no_other : p ≡ None → UpdateReads s from b (record { trip = d; delay = u })
          updates_no_other r = updates_break (other_none s h k g q feed trip_update r)

          pub updates_other : {a : Cursor} → p ≡ Some a → Updates s from b a.at d u
          unfolding feed field_rows
          updates_other r =
              let P = other_passed s h k g q r feed trip_update in
              record {
                trip = past_messages 1 own R.trip h (keyed s h k g) P refl y;
                delay = past_number (scalar_at 5) R.delay h (keyed s h k g) P refl z;
              }

-- over an entity, from nothing on
pub record Entities (s : List ℕ) (from at : ℕ) (d : TripScalars) : Type 0 where
  pub trip : Reading scalars (takes_along (3 ∷ 1 ∷ [])) feed feed_entity s from blank at d.trip
  pub delay : Reading scalar (inside 3 (taking (scalar_at 5))) feed feed_entity s from Scalar.Nothing at d.delay

module _ {s : List ℕ} {from at : ℕ} {d : TripScalars} (R : Entities s from at d) {o : Option (ℕ × ℕ × ℕ)}
    (S : Seeks feed 3 s at o) where
  pub entities_end : o ≡ None → TripReads s from d
  unfolding feed field_rows
  entities_end e =
      let S' = subst (Seeks feed 3 s at) e S in
      record {
        trip = sought_ends 3 (takes_along (1 ∷ [])) R.trip refl S';
        delay = sought_ends 3 (taking (scalar_at 5)) R.delay refl S';
      }

  module _ {i l n : ℕ} (e : o ≡ Some (i, l, n)) where
    found : Seeks feed 3 s at (Some (i, l, n))
    found = subst (Seeks feed 3 s at) e S

    pub entities_taken : {x : List ℕ} {r : TripScalars} → x ≡ take n s → UpdateReads x i d r → Entities s from n r
    unfolding feed field_rows
    entities_taken {x} g Q =
        record {
          trip = sought_on 3 (takes_along (1 ∷ [])) R.trip refl x found g Q.trip;
          delay = sought_on 3 (taking (scalar_at 5)) R.delay refl x found g Q.delay;
        }
