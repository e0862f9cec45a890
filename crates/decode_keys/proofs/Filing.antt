-- A key that is written into slot n leaves the index as it was, and then goes in. Assumes nothing.
use Prim.Native.Nat.{ℕ, ◌+◌, ◌*◌, ◌≤◌, ◌<◌}
use mathlib.Core.Path.{◌≡◌, refl, sym, ap, ◌∙◌}
use mathlib.Core.List.{List, [], ◌∷◌, ◌++◌}
use native.Mathlib.Omega.{arith}
use lib.ListN.{length, get_or, take, drop}
use Rattle.basics.specs.Lists.{All}
use Rattle.realtime_views.specs.Laws.Reading.{front_part}
use Rattle.maps.specs.Map.{put, puts, ascending}
use Rattle.maps.specs.Order.{texts}
use Rattle.maps.proofs.Laws.Map.{put_longer}
use Rattle.decode_slots.specs.Index.{index, slot_key, slot_place, slotted}
use Rattle.decode_slots.specs.Promises.Index.{SoundIndex, Settled}
use Rattle.realtime_views.specs.Promises.Views.{part_in, view_direction}
use Rattle.realtime_views.specs.declared.Trip.{Trip}
use Rattle.decode.specs.Trip as held
use Rattle.basics.specs.Options.{maybe}
use Rattle.decode.specs.Key.{inserts, dated_key, incomplete_key, head_of, tail_of}
use Rattle.decode.specs.Promises.Keyed.{Short, Keyed}
use Rattle.decode_keys.specs.Promises.Entity.{Filed, placed_at, Agrees, Entered}
use Rattle.decode_keys.specs.Laws.Lengths.{filed_length}
use Rattle.decode.proofs.Writing.{nonempty, nothing, span_length}

module _ {keys marks order k keys' : List ℕ} {n r : ℕ} (S : SoundIndex keys marks order n) (c : n ≤ 2048)
    (K : Keyed keys n k keys' r) where
  key_kept : (j : ℕ) → j < n → slot_key keys' marks j ≡ slot_key keys marks j
  key_kept j h =
      let l = get_or marks (3 * j) 0 in
      let b : 137 * j + l ≤ 137 * n = omega (arith, S.lengths j h) in
      sym (front_part keys' (137 * n) (137 * j) l b (omega (arith, K.long, S.keyed)))
      ∙ ap (λ x. take l (drop (137 * j) x)) K.before
      ∙ front_part keys (137 * n) (137 * j) l b (omega (arith, S.keyed))

  slots_kept : (l : List ℕ) → All (λ j. j < n) l → slotted keys' marks l ≡ slotted keys marks l
  slots_kept [] h = refl
  slots_kept (j ∷ l) h =
      let a = key_kept j h.0 in
      let b = slots_kept l h.1 in
      λ t. (a t, slot_place marks j) ∷ b t

  pub still : SoundIndex keys' marks order n
  still = record {
    counted = S.counted;
    ordered = S.ordered;
    marked = S.marked;
    keyed = K.long ∙ S.keyed;
    slots = S.slots;
    lengths = S.lengths;
    ascends = ap (ascending texts) (slots_kept (take n order) S.slots) ∙ S.ascends;
  }

  pub filed : {from to q : ℕ} {marks' order' : List ℕ} → Settled keys' marks order n r from to marks' order' q
      → Filed keys marks order n k from to keys' marks' order' q
  filed {from} {to} T = record {
    map = T.map ∙ (λ t. put texts (K.key t) (from, to) (slots_kept (take n order) S.slots t));
    sound = T.sound;
  }

module _ (feed : List ℕ) (u : held.Trip) where
  inserts_none : (raw : List ℕ) → length raw ≡ 0 → length (held.route_of u) ≡ 0 → inserts feed raw u ≡ []
  inserts_none [] z h = rw (nothing (held.route_of u) h)
  inserts_none (b ∷ raw) z h = absurd (omega arith)

  inserts_incomplete : (raw : List ℕ) → length raw ≡ 0 → (length (held.route_of u) ≡ 0 → ⊥)
      → inserts feed raw u ≡ (incomplete_key feed u, u) ∷ []
  inserts_incomplete [] z h = rw (nonempty (held.route_of u) h)
  inserts_incomplete (b ∷ raw) z h = absurd (omega arith)

  inserts_base : (raw : List ℕ) → (length raw ≡ 0 → ⊥) → length (held.date_of u) ≡ 0
      → inserts feed raw u ≡ (raw, u) ∷ []
  inserts_base [] z h = absurd (z refl)
  inserts_base (b ∷ raw) z h = rw (nothing (held.date_of u) h)

  inserts_dated : (raw : List ℕ) → (length raw ≡ 0 → ⊥) → (length (held.date_of u) ≡ 0 → ⊥)
      → inserts feed raw u ≡ (dated_key raw (held.date_of u), u) ∷ (raw, u) ∷ []
  inserts_dated [] z h = absurd (z refl)
  inserts_dated (b ∷ raw) z h = rw (nonempty (held.date_of u) h)

module _ (feed s : List ℕ) (t : Trip) (S : Short s t) where
  id_length : length (part_in s t.id) ≡ t.id.len
  id_length = span_length s (part_in s t.id) t.id.start t.id.len refl S.id.0

  route_length : (u : held.Trip) → Agrees s t u → length (held.route_of u) ≡ t.route.len
  route_length u a =
      sym (ap length a.route) ∙ span_length s (part_in s t.route) t.route.start t.route.len refl
      S.route.0

  date_length : (u : held.Trip) → Agrees s t u → length (held.date_of u) ≡ t.date.len
  date_length u a =
      sym (ap length a.date) ∙ span_length s (part_in s t.date) t.date.start t.date.len refl S.date.0

  incomplete_key_agrees : (u : held.Trip) → Agrees s t u
      → incomplete_key feed u ≡ head_of feed (part_in s t.route) (maybe (view_direction t.direction)) ++ tail_of
      (part_in s t.date) (part_in s t.time)
  unfolding incomplete_key
  incomplete_key_agrees u a = sym (λ i. head_of feed (a.route i) (a.direction i) ++ tail_of (a.date i) (a.time i))

  -- no key
  pub enters_none : {keys marks order : List ℕ} {n : ℕ} (from to : ℕ) → SoundIndex keys marks order n → n ≤ 2048
      → t.id.len ≡ 0 → t.route.len ≡ 0
      → Entered feed s t from to keys marks order n keys marks order n
  enters_none {keys} {marks} {order} {n} from to Q c z y = record {
    sound = Q;
    few = λ h u a. sym (ap (λ l. puts texts (placed_at (from, to) l) (index keys marks order n))
        (inserts_none feed u (part_in s t.id) (id_length ∙ z) (route_length u a ∙ y)));
    many = λ h u a. absurd (omega arith);
  }

  module _ {from to : ℕ} {keys marks order k keys' marks' order' : List ℕ} {n r : ℕ}
      (F : Filed keys marks order n k from to keys' marks' order' r) where
    alone : ((u : held.Trip) → Agrees s t u → inserts feed (part_in s t.id) u ≡ (k, u) ∷ [])
        → Entered feed s t from to keys marks order n keys' marks' order' r
    alone e = record {
      sound = F.sound;
      few = λ h u a. F.map ∙ sym (ap (λ l. puts texts (placed_at (from, to) l) (index keys marks order n)) (e u a));
      many = λ h u a. rw (e u a) (omega (arith, filed_length F));
    }

    pub enters_incomplete : k ≡ head_of feed (part_in s t.route) (maybe (view_direction t.direction)) ++ tail_of
        (part_in s t.date) (part_in s t.time) → t.id.len ≡ 0 → (t.route.len ≡ 0 → ⊥)
        → Entered feed s t from to keys marks order n keys' marks' order' r
    enters_incomplete e z y =
        alone (λ u a. inserts_incomplete feed u (part_in s t.id) (id_length ∙ z) (λ q. y (sym (route_length u a) ∙ q))
        ∙ ap {B = List (List ℕ × held.Trip)} (λ x. (x, u) ∷ []) (incomplete_key_agrees u a ∙ sym e))

    pub enters_base : k ≡ part_in s t.id → (t.id.len ≡ 0 → ⊥) → t.date.len ≡ 0
        → Entered feed s t from to keys marks order n keys' marks' order' r
    enters_base e z y =
        alone (λ u a. inserts_base feed u (part_in s t.id) (λ q. z (sym id_length ∙ q)) (date_length u a ∙ y)
        ∙ ap {B = List (List ℕ × held.Trip)} (λ x. (x, u) ∷ []) (sym e))

    -- the dated key, and its base behind it
    module _ (e : k ≡ dated_key (part_in s t.id) (part_in s t.date)) (z : t.id.len ≡ 0 → ⊥)
        (y : t.date.len ≡ 0 → ⊥) where
      two : (u : held.Trip) → Agrees s t u → inserts feed (part_in s t.id) u ≡ (k, u) ∷ (part_in s t.id, u) ∷ []
      two u a =
          inserts_dated feed u (part_in s t.id) (λ q. z (sym id_length ∙ q)) (λ q. y (sym (date_length u a) ∙ q))
          ∙ ap {B = List (List ℕ × held.Trip)} (λ x. (x, u) ∷ (part_in s t.id, u) ∷ [])
          (ap (dated_key (part_in s t.id)) (sym a.date) ∙ sym e)

      pub enters_over : 2048 < r → Entered feed s t from to keys marks order n keys' marks' order' r
      enters_over h = record {
        sound = F.sound;
        few = λ g u a. absurd (omega arith);
        many = λ g u a. rw (two u a) (omega (
          arith,
          filed_length F,
          put_longer texts (part_in s t.id) (from, to)
              (put texts k (from, to) (index keys marks order n)),
        ));
      }

      pub enters_dated : {keys'' marks'' order'' : List ℕ} {q : ℕ}
          → Filed keys' marks' order' r (part_in s t.id) from to keys'' marks'' order'' q
          → Entered feed s t from to keys marks order n keys'' marks'' order'' q
      enters_dated {keys''} {marks''} {order''} {q} G = record {
        sound = G.sound;
        few = λ g u a. rw (two u a) (G.map ∙ ap (put texts (part_in s t.id) (from, to)) F.map);
        many = λ g u a. rw (two u a, ← F.map) (omega (arith, filed_length G));
      }
