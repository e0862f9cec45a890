-- The old trips join the index one by one. Assumes nothing.
use Prim.Native.Nat.{ℕ, ◌+◌, ◌-◌, ◌≤◌, ◌<◌}
use mathlib.Core.Path.{◌≡◌, refl, sym, ap, ◌∙◌}
use mathlib.Core.Bool.{false, cond}
use mathlib.Core.List.{List, [], ◌∷◌, ◌++◌, append-nil}
use mathlib.Core.Option.{some}
use native.Mathlib.Omega.{arith}
use lib.ListN.{length, take, drop, length-append}
use lib.Seq.{length-slice}
use borrow.Author.Tests.{le-ltb}
use Rattle.basics.specs.Lists.{All}
use Rattle.formats.specs.Format.{Format, list, Value, read, write}
use Rattle.formats.specs.Laws.Format.{law}
use Rattle.formats_write.specs.Laws.Slices.{slice_is}
use Rattle.formats_read.specs.Laws.Here.{halves}
use Rattle.formats_read.specs.Promises.Here.{Here}
use Rattle.formats_read.specs.Laws.Lists.{listed}
use Rattle.formats_read.specs.Promises.Lists.{Many}
use Rattle.formats_read.specs.Promises.Reads.{ReadsNumber, ReadsText}
use Rattle.formats_skip.specs.Promises.Passes.{Passes}
use Rattle.formats_skip.specs.Laws.Passes.{Passing, list_end}
use Rattle.formats_read.specs.Laws.Walk.{At, Walk, ended, of_list}
use Rattle.decode.specs.Trip.{Trip, trip, trip_entry}
use Rattle.maps.specs.Map.{put}
use Rattle.maps.specs.Order.{texts}
use Rattle.maps.proofs.Laws.Map.{map_put, puts_append, put_all, put_one_more}
use Rattle.decode_slots.specs.Index.{Place, index}
use Rattle.decode_slots.specs.Promises.Index.{SoundIndex, Lent}
use Rattle.decode_keys.specs.Promises.Entity.{Filed}
use Rattle.decode_slots.specs.Laws.Slots.{index_length, sound_none}
use Rattle.decode_keys.specs.Laws.Lengths.{filed_length}
use Rattle.decode.specs.Leaves.{Trips}
use Rattle.decode.specs.Sizes.{beyond}
use Rattle.decode_slots.specs.Places.{is_new, or_no_trip, record_at, old_at, held_at, held}
use Rattle.decode_old.specs.Promises.Old.{Stands, OldRecord, Joined, Entry, FiledEntry, Filled}

-- the bytes of a value that stands somewhere are read as it, and nothing is left
read_there : (f : Format) {o : List ℕ} {m e : ℕ} {v : Value f} → Here f o m e v
    → read f (take (e - m) (drop m o)) ≡ some (v, [])
read_there f {o} {m} {e} {v} h =
    ap (read f) (slice_is m e o h.forward h.within ∙ h.written ∙ sym (append-nil (write f v)))
    ∙ (law f).there v [] h.fits

old_new : (m e : ℕ) → is_new (beyond + m, beyond + e) ≡ false
old_new m e = le-ltb (beyond + m) beyond (omega arith)

-- A RECORD THAT STANDS IN THE OLD OVERLAY is what its place in the index stands for
module _ {o : List ℕ} {m e : ℕ} {t : Trip} (h : Here trip o m e t) where
  old_read : old_at o (beyond + m, beyond + e) ≡ t
  unfolding old_at
  old_read =
      let i : beyond + m - beyond ≡ m = omega arith in
      let j : beyond + e - beyond ≡ e = omega arith in
      ap or_no_trip (ap (read trip) (λ k. take (j k - i k) (drop (i k) o)) ∙ read_there trip h)

  old_record : OldRecord o (beyond + m, beyond + e)
  old_record = record { aged = old_new m e; forward = omega (arith, h.forward); here = there }
    where
      there : Here trip o (beyond + m - beyond) (beyond + e - beyond) (old_at o (beyond + m, beyond + e))
      there =
          let i : beyond + m - beyond ≡ m = omega arith in
          let j : beyond + e - beyond ≡ e = omega arith in
          rw (i, j, old_read) h

  old_held : (s : List ℕ) → held_at s o (beyond + m, beyond + e) ≡ t
  old_held s =
      ap (λ b. cond b (record_at s (beyond + m, beyond + e)) (old_at o (beyond + m, beyond + e))) (old_new m e)
      ∙ old_read

-- an entry that was read: its key from a to m, and its record from there to e
module _ {o : List ℕ} {p a m e : ℕ} (T : ReadsText o p a m) (P : Passes trip o m e) where
  record_here : (v : Value trip_entry) (q : ℕ) → Here trip_entry o p q v → Here trip o m q v.1
  record_here v q h = let x = halves h in let i = T.next x.first in rw i x.second

  entry_ends : (v : Value trip_entry) (q : ℕ) → Here trip_entry o p q v → e ≡ q
  entry_ends v q h = P.to (record_here v q h)

  key_is : (v : Value trip_entry) (q : ℕ) → Here trip_entry o p q v → take (m - a) (drop a o) ≡ v.0
  key_is v q h = slice_is a m o T.forward T.within ∙ T.bytes (halves h).first

  pub entry_small : Entry o p → e ≤ 4000000000
  entry_small E = omega (arith, entry_ends E.entry E.end E.here, E.here.within, E.small)

  pub key_short : Entry o p → (a + (m - a) ≤ length o) × (m - a ≤ 137)
  key_short E =
      let l = length-slice a m o T.within in
      let b = ap length (T.bytes (halves E.here).first) in
      (omega (arith, T.forward, T.within), omega (arith, E.short))

  pub files : {from to n r : ℕ} {keys marks order keys' marks' order' : List ℕ} → from ≡ beyond + m → to ≡ beyond + e
      → Filed keys marks order n (take (m - a) (drop a o)) from to keys' marks' order' r
      → FiledEntry o p keys marks order n keys' marks' order' r e
  files f t F = record {
    ends = entry_ends;
    filed = λ v h. (m, record_here v e h, rw (f, t, key_is v e h) at F);
  }

pub filled_none : {o keys marks order : List ℕ} → Lent keys marks order → Filled o keys marks order 0 []
unfolding held
filled_none L = record { sound = sound_none L; few = omega arith; old = tt; holds = λ s. refl }

pub filled_more : {o keys marks order keys' marks' order' : List ℕ} {p n r e : ℕ}
    → FiledEntry o p keys marks order n keys' marks' order' r e
    → (us : Trips) (v : Value trip_entry) → Filled o keys marks order n us → Here trip_entry o p e v
    → Filled o keys' marks' order' r (us ++ (v ∷ []))
unfolding held
filled_more {o} {keys} {marks} {order} {n = n} {e = e} P us v D h =
    let x = P.filed v h in
    let F = x.2 in
    let at : Place = (beyond + x.0, beyond + e) in
    let m = index keys marks order n in
    record {
      sound = F.sound;
      few = omega (
        arith,
        filed_length F,
        put_one_more texts v.0 at m,
        index_length keys marks order n D.sound,
        D.few,
        length-append us (v ∷ []),
      );
      old = rw F.map (put_all texts (λ e. OldRecord o e.1) v.0 at m (old_record x.1) D.old);
      holds = λ s.
          ap (held s o) F.map ∙ map_put texts (held_at s o) v.0 at m
          ∙ (λ i. put texts v.0 (old_held x.1 s i) (D.holds s i))
          ∙ sym (puts_append texts us (v ∷ []) []);
    }

-- the walk over the entries, c in number from a on
module _ {o : List ℕ} {at c a : ℕ} (S : Stands o at) (N : ReadsNumber o at c a) {keys marks order : List ℕ}
    {p left n : ℕ} (W : Walk trip_entry o a c p left (Filled o keys marks order n)) where
  now_at : At trip_entry o S.end S.trips p left (Filled o keys marks order n)
  now_at =
      let x = (listed S.here).1 in
      let y = N.next x.count in
      W.at S.trips S.end (sym (N.value x.count)) (rw y x.values)

  pub sound_now : SoundIndex keys marks order n
  sound_now = now_at.so.sound

  pub few_now : 0 < left → n ≤ 2048
  few_now z =
      let A = now_at in omega (
        arith,
        A.so.few,
        A.count,
        S.few,
        ap length A.joined,
        length-append A.behind
            A.ahead,
      )

  short_back : (us ws : Trips) → All (λ e. length e.0 ≤ 137) (us ++ ws) → All (λ e. length e.0 ≤ 137) ws
  short_back [] ws h = h
  short_back (u ∷ us) ws h = short_back us ws h.1

  first_entry : (ws : Trips) → length ws ≡ left → 0 < left → Many trip_entry o p S.end ws
      → All (λ e. length e.0 ≤ 137) ws → Entry o p
  first_entry [] l z m h = absurd (omega arith)
  first_entry (w ∷ ws) l z m h = record { entry = w; end = m.0; here = m.1; short = h.0; small = S.small }

  pub entry_now : 0 < left → Entry o p
  entry_now z =
      let A = now_at in let j = A.joined in first_entry A.ahead A.count z A.stand
      (short_back A.behind A.ahead (rw j S.short))

  -- whatever was done with the entries behind
  passing : Passing trip_entry o a c p left
  passing = record {
    walk = record {
      at = λ vs q l m.
          let A = W.at vs q l m in
          record {
            behind = A.behind;
            ahead = A.ahead;
            joined = A.joined;
            count = A.count;
            stand = A.stand;
            so = tt;
          };
    };
  }

  pub joins : left ≤ 0 → Joined o at keys marks order n p
  joins z = record {
    sound = sound_now;
    few = omega (arith, (all S.trips S.end S.here).few, S.few);
    old = (all S.trips S.end S.here).old;
    of = λ v q h. (all v q h).holds;
    passes = list_end passing N z;
  }
    where
      all : (v : Trips) (q : ℕ) → Here (list 2048 trip_entry) o at q v → Filled o keys marks order n v
      all v q h = of_list {P = Filled o keys marks order n} h N (ended W z)
