-- What the parts of `leave` say, put together. Assumes nothing.
use Prim.Native.Nat.{ℕ, ◌≤◌, ◌<◌}
use mathlib.Core.Path.{◌≡◌, refl, sym, ap, ◌∙◌}
use mathlib.Core.Bool.{Bool, true, false, cond, ◌||◌, false≢true}
use mathlib.Core.List.{List, [], ◌∷◌}
use native.Mathlib.Omega.{arith}
use lib.Dec.{ltb}
use lib.ListN.{length, take}
use borrow.Author.Tests.{lt-ltb, le-ltb}
use Rattle.basics.specs.Lists.{All}
use Rattle.formats.specs.Format.{list}
use Rattle.formats_read.specs.Promises.Here.{Here}
use Rattle.formats_skip.specs.Promises.Passes.{Passes}
use Rattle.realtime.specs.Schema.{feed}
use Rattle.realtime_views.specs.Promises.Views.{HeaderRead}
use Rattle.realtime_views.specs.declared.Header.{Header}
use Rattle.decode.specs.Trip.{trip_entry}
use Rattle.maps.specs.Map.{puts}
use Rattle.maps.specs.Order.{texts}
use Rattle.maps.proofs.Laws.Map.{puts_all}
use Rattle.decode_slots.specs.Index.{Place, slot_place, slotted, index}
use Rattle.decode_slots.specs.Promises.Index.{SoundIndex}
use Rattle.decode_slots.specs.Laws.Slots.{index_length}
use Rattle.decode.specs.Leaves.{Trips, differential, leaves}
use Rattle.decode_slots.specs.Places.{old_at, held_at, held, is_new, crowded, any_crowded}
use Rattle.decode_updates.specs.Promises.Updates.{ReadableSlot, crowded_in}
use Rattle.decode_updates.specs.Laws.Updates.{crowded_held}
use Rattle.decode_old.specs.Promises.Old.{OldRecord, Joined}
use Rattle.decode_index.specs.Message.{message_tree}
use Rattle.decode_index.specs.Promises.Message.{JudgedMessage, AllFit, with_entities, Indexed}
use Rattle.decode_index.specs.Leaving.{trips}
use Rattle.decode_index.specs.Promises.Leaving.{Old, Begun, Leaves}
use Rattle.decode_index.specs.declared.TooMany.{TooMany}
use Rattle.std.specs.Prelude.{Result, Ok, Err}
use Rattle.decode_index.proofs.Entities.{whole, message_is, held_length}

-- ---- the index before the entities

pub begun_none : {o keys marks order : List ℕ} {at p : ℕ} {d : Bool} → SoundIndex keys marks order 0 → d ≡ false
    → Passes (list 2048 trip_entry) o at p → Begun o at d keys marks order 0 p
unfolding held
begun_none S e P = record { sound = S; few = omega arith; old = tt; of = λ v q h s. rw e refl; passes = P }

pub begun_old : {o keys marks order : List ℕ} {at n p : ℕ} {d : Bool} → Joined o at keys marks order n p → d ≡ true
    → Begun o at d keys marks order n p
begun_old J e = record {
  sound = J.sound;
  few = J.few;
  old = J.old;
  of = λ v q h s. rw e (J.of v q h s);
  passes = J.passes;
}

-- ---- the places of an index are fit

or_false : (a b : Bool) → (a || b) ≡ false → (a ≡ false) × (b ≡ false)
or_false true b e = absurd (false≢true (sym e))
or_false false b e = (refl, e)

old_fit : (s o : List ℕ) (m : List (List ℕ × Place)) → All (λ e. OldRecord o e.1) m
    → any_crowded (held s o m) ≡ false → AllFit s o m
unfolding held any_crowded
old_fit s o [] a c = tt
old_fit s o (e ∷ m) a c =
    let b = or_false (crowded (held_at s o e.1)) _ c in (
      record {
        new = λ n. absurd (false≢true (sym a.0.aged ∙ n));
        old = λ _. a.0;
        calm = λ n. rw n at b.0;
      },
      old_fit s o m a.1 b.1,
    )

all_calm : (m : Trips) → All (λ e. crowded e.1 ≡ false) m → any_crowded m ≡ false
unfolding any_crowded
all_calm [] h = refl
all_calm (e ∷ m) h = rw h.0 (all_calm m h.1)

begun_fit : {o keys marks order : List ℕ} {at n p : ℕ} {d : Bool} (s : List ℕ) → Old o at
    → Begun o at d keys marks order n p → AllFit s o (index keys marks order n)
unfolding any_crowded
begun_fit {o} {keys} {marks} {order} {n = n} {d = d} s O B =
    old_fit s o (index keys marks order n) B.old
    (ap any_crowded (B.of O.stands.trips O.stands.end O.stands.here s) ∙ go d)
  where
    go : (b : Bool) → any_crowded (cond b (puts texts O.stands.trips []) []) ≡ false
    go true = all_calm (puts texts O.stands.trips [])
        (puts_all texts (λ e. crowded e.1 ≡ false) O.stands.trips [] O.calm tt)
    go false = refl

slots_readable : (s o keys marks : List ℕ) (n : ℕ) (l : List ℕ) → n ≤ 2049 → All (λ j. j < n) l
    → AllFit s o (slotted keys marks l) → All (ReadableSlot s marks) l
slots_readable s o keys marks n [] c b f = tt
slots_readable s o keys marks n (j ∷ l) c b f =
    ((omega (arith, b.0), f.0.new), slots_readable s o keys marks n l c b.1 f.1)

slots_calm : (s o keys marks : List ℕ) (l : List ℕ) → AllFit s o (slotted keys marks l)
    → All (λ j. is_new (slot_place marks j) ≡ false → crowded (old_at o (slot_place marks j)) ≡ false) l
slots_calm s o keys marks [] f = tt
slots_calm s o keys marks (j ∷ l) f = (f.0.calm, slots_calm s o keys marks l f.1)

-- ---- the whole

-- an answer is one pair alone
module _ {m p n q : ℕ} (e : ◌≡◌ {A = Result (ℕ × ℕ) TooMany} (Ok (m, p)) (Ok (n, q))) where
  same_pair : ◌≡◌ {A = ℕ × ℕ} (m, p) (n, q)
  same_pair = cc

  same_slots : m ≡ n
  same_slots = ap (λ x. x.0) same_pair

  same_next : p ≡ q
  same_next = ap (λ x. x.1) same_pair

module _ {name s o keys₀ marks₀ order₀ keys marks order : List ℕ} {at n p m : ℕ} {h : Header}
    (J : JudgedMessage s) (O : Old o at) (H : HeaderRead feed s h)
    (B : Begun o at h.differential keys₀ marks₀ order₀ n p)
    (I : Indexed name s (index keys₀ marks₀ order₀ n) keys marks order m) where
  flag : h.differential ≡ differential (message_tree s)
  flag = let W = whole s J in ap (λ v. v.differential) (H.of W.message W.read)
      ∙ ap differential (sym (message_is W))

  left_is : (v : Trips) (q : ℕ) → Here (list 2048 trip_entry) o at q v
      → with_entities name s (held s o (index keys₀ marks₀ order₀ n)) ≡ leaves name (message_tree s) (puts texts v [])
  unfolding leaves
  left_is v q k = ap (with_entities name s) (B.of v q k s ∙ ap (λ b. cond b (puts texts v []) []) flag)

  pub leaves_many : 2048 < m → Leaves name s o at keys marks order (Err TooMany.Trips)
  leaves_many g = record {
    sound = λ e. absurd (let z : ◌≡◌ {A = ℕ} 0 1 = cc in omega arith);
    fit = λ e. absurd (let z : ◌≡◌ {A = ℕ} 0 1 = cc in omega arith);
    calm = λ e. absurd (let z : ◌≡◌ {A = ℕ} 0 1 = cc in omega arith);
    passes = λ e. absurd (let z : ◌≡◌ {A = ℕ} 0 1 = cc in omega arith);
    of = λ v q k. sym (rw (lt-ltb 2048 (length (leaves name (message_tree s) (puts texts v [])))
        (rw (← left_is v q k) (I.many g o))) refl);
  }

  module _ (g : m ≤ 2048) where
    fits : AllFit s o (index keys marks order m)
    fits = I.fit g o (begun_fit s O B)

    pub readable_slots : All (ReadableSlot s marks) (take m order)
    readable_slots = slots_readable s o keys marks m (take m order) (omega arith) I.sound.slots fits

    held_is : (v : Trips) (q : ℕ) → Here (list 2048 trip_entry) o at q v
        → held s o (index keys marks order m) ≡ leaves name (message_tree s) (puts texts v [])
    held_is v q k = I.few g o ∙ left_is v q k

    short : (v : Trips) (q : ℕ) → Here (list 2048 trip_entry) o at q v
        → ltb 2048 (length (leaves name (message_tree s) (puts texts v []))) ≡ false
    short v q k =
        le-ltb 2048 (length (leaves name (message_tree s) (puts texts v [])))
        (omega (
          arith,
          sym (ap length (held_is v q k)),
          held_length s o (index keys marks order m),
          index_length keys
              marks order m I.sound,
        ))

    module _ {c : Bool} (C : c ≡ crowded_in s marks (take m order)) where
      crowds : (v : Trips) (q : ℕ) → Here (list 2048 trip_entry) o at q v
          → any_crowded (leaves name (message_tree s) (puts texts v [])) ≡ c
      crowds v q k =
          ap any_crowded (sym (held_is v q k))
          ∙ sym (crowded_held s o keys marks (take m order) (slots_calm s o keys marks (take m order) fits)) ∙ sym C

      pub leaves_crowded : c ≡ true → Leaves name s o at keys marks order (Err TooMany.Updates)
      leaves_crowded t = record {
        sound = λ e. absurd (let z : ◌≡◌ {A = ℕ} 0 1 = cc in omega arith);
        fit = λ e. absurd (let z : ◌≡◌ {A = ℕ} 0 1 = cc in omega arith);
        calm = λ e. absurd (let z : ◌≡◌ {A = ℕ} 0 1 = cc in omega arith);
        passes = λ e. absurd (let z : ◌≡◌ {A = ℕ} 0 1 = cc in omega arith);
        of = λ v q k. sym (rw (short v q k, crowds v q k, t) refl);
      }

      pub leaves_trips : c ≡ false → Leaves name s o at keys marks order (Ok (m, p))
      leaves_trips t =
          let S = O.stands in
          let calm : any_crowded (held s o (index keys marks order m)) ≡ false =
          ap any_crowded (held_is S.trips S.end S.here) ∙ crowds S.trips S.end S.here ∙ t in
          record {
            sound = λ {n = i} e. rw (same_slots e) at I.sound;
            fit = λ {n = i} e. rw (same_slots e) at fits;
            calm = λ {n = i} e. rw (same_slots e) at calm;
            passes = λ {next = q} e. rw (same_next e) at B.passes;
            of = λ v q k. ap trips (held_is v q k) ∙ sym (rw (short v q k, crowds v q k, t) refl);
          }
