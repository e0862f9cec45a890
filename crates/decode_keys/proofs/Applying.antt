-- What the readers say of an entity is its record and its keys. Assumes nothing.
use Prim.Native.Nat.{ℕ, ◌+◌, ◌≤◌}
use mathlib.Core.Path.{◌≡◌, refl, sym, ap, ◌∙◌}
use mathlib.Core.Bool.{Bool, true, false, cond}
use mathlib.Core.List.{List, []}
use native.Mathlib.Omega.{arith}
use lib.ListN.{length, take, drop}
use Rattle.realtime.specs.Schema as schema
use Rattle.realtime.specs.Views.{trip}
use Rattle.realtime_views.specs.Promises.Views.{part_in, TripRead, DeletedRead}
use Rattle.realtime_views.specs.declared.Trip.{Trip}
use Rattle.maps.specs.Map.{puts}
use Rattle.maps.specs.Order.{texts}
use Rattle.decode.specs.Record.{trip_in}
use Rattle.basics.specs.Options.{maybe}
use Rattle.decode.specs.Key.{inserts, entries_in}
use Rattle.decode_slots.specs.Index.{index}
use Rattle.decode_slots.specs.Promises.Index.{SoundIndex}
use Rattle.decode.specs.Promises.Keyed.{Short}
use Rattle.decode_keys.specs.Promises.Entity.{placed_at, Agrees, Entered, FineEntity, Applies}
use Rattle.decode.proofs.Writing.{span_length}

module _ {s : List ℕ} {start len : ℕ} where
  -- the texts are short
  pub short : {t : Trip} → TripRead schema.feed s start len t → FineEntity s start len → Short s t
  short {t} R F =
      let v = R.of F.entity F.read in
      let size : (x y : List ℕ) (i l : ℕ) → x ≡ y → take l (drop i s) ≡ x → i + l ≤ length s → length y ≡ l = λ x y i
      l e f h. ap length (sym e) ∙ span_length s x i l (sym f) h in
      record {
        id = (
          R.id,
          omega (
            arith,
            F.id,
            size (part_in s t.id) (trip F.entity).id t.id.start t.id.len
                (ap (λ w. w.id) v) refl R.id,
          ),
        );
        date = (
          R.date,
          omega (
            arith,
            F.date,
            size (part_in s t.date) (trip F.entity).date t.date.start
                t.date.len (ap (λ w. w.date) v) refl R.date,
          ),
        );
        time = (
          R.time,
          omega (
            arith,
            F.time,
            size (part_in s t.time) (trip F.entity).time t.time.start
                t.time.len (ap (λ w. w.time) v) refl R.time,
          ),
        );
        route = (
          R.route,
          omega (
            arith,
            F.route,
            size (part_in s t.route) (trip F.entity).route
                t.route.start t.route.len (ap (λ w. w.route) v) refl R.route,
          ),
        );
      }

  -- a deleted entity
  pub applies_none : {keys marks order : List ℕ} {n : ℕ} {d : Bool} (feed : List ℕ) → SoundIndex keys marks order n
      → n ≤ 2048 → DeletedRead schema.feed s start len d → d ≡ true
      → Applies feed s start len keys marks order n keys marks order n
  unfolding entries_in
  applies_none {keys} {marks} {order} {n} feed Q c R h = record {
    sound = Q;
    of = λ e r. record {
      few = λ g. rw (sym (R.of e r) ∙ h);
      many = λ g. absurd (omega arith);
    };
  }

  -- another, by its keys
  pub applies_trip : {keys marks order keys' marks' order' : List ℕ} {n r : ℕ} {d : Bool} {t : Trip} (feed : List ℕ)
      → DeletedRead schema.feed s start len d → d ≡ false
      → TripRead schema.feed s start len t
      → Entered feed s t start (start + len) keys marks order n keys' marks' order' r
      → Applies feed s start len keys marks order n keys' marks' order' r
  unfolding entries_in trip_in
  applies_trip {keys} {marks} {order} {n = n} {t = t} feed D h R E = record {
    sound = E.sound;
    of = λ e q.
        let v = R.of e q in
        let a : Agrees s t (trip_in e) = record {
          route = ap (λ w. w.route) v;
          direction = ap (λ w. maybe w.direction) v;
          date = ap (λ w. w.date) v;
          time = ap (λ w. w.time) v;
        } in
        let l : inserts feed (part_in s t.id) (trip_in e) ≡ entries_in feed e =
        ap (λ x. inserts feed x (trip_in e)) (ap (λ w. w.id) v)
        ∙ sym (ap (λ b. cond b [] (inserts feed (trip e).id (trip_in e))) (sym (D.of e q) ∙ h)) in
        record {
          few = λ g. E.few g (trip_in e) a
              ∙ ap (λ x. puts texts (placed_at (start, start + len) x) (index keys marks order n)) l;
          many = λ g. rw (← l) (E.many g (trip_in e) a);
        };
  }
