-- Law. Feeds noted one after the other; what is noted of a state.
use Rattle.std.specs.Prelude.{◌≡◌, refl, List, [], ◌∷◌, ◌++◌, ℕ, ◌+◌, ◌-◌, ◌≤◌, ◌<◌, length, drop, Option, Some, None}
use Rattle.std.proofs.Common.{sym, ◌∙◌, arith, length-append}
use Rattle.basics.specs.Lists.{All}
use Rattle.formats.specs.Class.{token}
use Rattle.formats.specs.Format.{list}
use Rattle.formats.specs.Readers.{const_r}
use Rattle.formats.specs.Promises.Outcome.{skipped}
use Rattle.formats_check.specs.Promises.Checked.{Number}
use Rattle.formats_check.specs.Laws.Elements.{constant_so}
use Rattle.formats_check.specs.Laws.Climbing.{Entered}
use Rattle.formats_read.specs.Laws.Walk.{Walk, begin, onward, ended, of_list}
use Rattle.overlay.specs.State.{Feed, feed_entry, overlay, feeds_of}
use Rattle.overlay.specs.Image.{state_of}
use Rattle.overlay_noted.specs.Promises.Noted.{FeedsNoted}
use Rattle.overlay_noted.specs.Promises.Noting.{Unless, Fits}
use Rattle.overlay_noted.specs.Laws.Places.{feeds_kept, feeds_more}
use Rattle.overlay_noted.specs.Laws.Passes.{checked_passes, entered_passes, number_reads, number_passes, behind}
use Rattle.overlay_noted.specs.Laws.Passes.{skip_so, entry_so, unless_map, fits_as}
use Rattle.overlay_open.specs.Promises.State.{entry_good}
use Rattle.overlay_open.specs.Promises.Opened.{ending, Notes}
use Rattle.overlay_open.specs.Promises.Held.{HeldFeed}
use Rattle.overlay_open.specs.Promises.Feeds.{FeedPut, FeedsPut, HeldPut}
use Rattle.overlay_open.specs.Laws.Held.{open_at, feeds_held, feeds_few, feeds_up}

-- THE WALK OVER THE FEEDS
pub record Behind (s : List ℕ) (r : ℕ) (l : List ℕ) (us : List (List ℕ × Feed)) : Type 0 where
  pub count : length us ≡ r
  pub noted : All HeldFeed us → FeedsNoted s l 0 us

pub record Feeding (s : List ℕ) (a n p left r : ℕ) (l : List ℕ) : Type 0 where
  pub walk : Fits s l → Walk feed_entry s a n p left (Behind s r l)

all_front : {A : Type 0} (P : A → Type 0) (us ws : List A) → All P (us ++ ws) → All P us
all_front P [] ws h = tt
all_front P (u ∷ us) ws h = (h.0, all_front P us ws h.1)

all_back : {A : Type 0} (P : A → Type 0) (us ws : List A) → All P (us ++ ws) → All P ws
all_back P [] ws h = h
all_back P (u ∷ us) ws h = all_back P us ws h.1

module _ {s : List ℕ} {a n : ℕ} where
  pub feeding_start : {l : List ℕ} → Feeding s a n a n 0 l
  feeding_start = record { walk = λ m. begin (record { count = refl; noted = λ h. tt }) }

  module _ {p left r : ℕ} {l : List ℕ} (F : Feeding s a n p left r l) where
    pub feeding_on : {x : Option (ℕ × ℕ × ℕ)} {m : List ℕ} → 0 < left → Entered 16 token entry_good s p x
        → Unless x None (FeedPut s p r l m) → {b d e : ℕ} → x ≡ Some (b, d, e)
        → Feeding s a n e (left - 1) (r + 1) m
    feeding_on {x} {m} z E U {b} {d} {e} h =
        let Q = entry_so U h in
        let L = Q.lower in
        record {
          walk = λ o. onward (F.walk (fits_as (sym L.kept) o)) e z (λ v q g. (entered_passes E h).to g) (λ us x B g.
              let i : 0 + length us ≡ r = omega (arith, B.count) in
              record {
                count = length-append us (x ∷ []) ∙ omega (arith, B.count);
                noted = λ H.
                    let b = all_back HeldFeed us (x ∷ []) H in
                    feeds_more s m 0 us
                    (feeds_kept s l m r L.kept L.trips_below L.parts_below 0 us (omega (arith, B.count))
                    (B.noted (all_front HeldFeed us (x ∷ []) H)))
                    (rw i (Q.noted o g b.0));
              });
        }

    pub feeding_end : left ≤ 0 → {old : List ℕ} → length l ≡ length old → {x : Option ℕ}
        → Unless x None (FeedsPut s a n old l)
    feeding_end z k =
        record { so = λ _. record { kept = k; each = λ o vs q c g. (ended (F.walk o) z vs q c g).noted } }

-- THE LIST, AND THE STATE
pub feeds_put : {s : List ℕ} {at : ℕ} {old l : List ℕ} {o : Option (ℕ × ℕ)} → Number s at o → {n p : ℕ}
    → o ≡ Some (n, p)
    → {x : Option ℕ} → Unless x None (FeedsPut s p n old l)
    → Unless x None (HeldPut (list 4 feed_entry) (λ v. v) s at old l)
feeds_put {s} {l} N h U =
    unless_map (λ F. record {
      kept = F.kept;
      each = λ m x. of_list {P = λ us. All HeldFeed us → FeedsNoted s l 0 us} x (number_reads N h) (F.each m);
    }) U

pub state_put : {s : List ℕ} {at : ℕ} {old l : List ℕ} {y : Option ℕ} → y ≡ skipped s (const_r 1 (drop at s)) → {p : ℕ}
    → y ≡ Some p → {o : Option (ℕ × ℕ)} → Number s p o → {v q : ℕ} → o ≡ Some (v, q) → {x : Option ℕ}
    → Unless x None (HeldPut (list 4 feed_entry) (λ v. v) s q old l)
    → Unless x None (HeldPut overlay feeds_of s at old l)
state_put e h N i U =
    unless_map (λ H. record {
      kept = H.kept;
      each = λ m g. H.each m (behind (number_passes N i) (behind (checked_passes (constant_so 1 e) h) g));
    }) U

-- AN OPENED BUFFER
pub notes_no : {s old l : List ℕ} → Notes s old l None
notes_no = record { at = λ m h. absurd (let z : ◌≡◌ {A = ℕ} 0 1 = cc in omega arith) }

pub notes_so : {s old l : List ℕ} {x : Option ℕ} {p : ℕ} → Unless x None (HeldPut overlay feeds_of s 0 old l)
    → x ≡ Some p → Some p ≡ ending (state_of s) → Notes s old l (Some p)
notes_so U h e = record {
  at = λ m i.
      let O = open_at e i in
      let H = skip_so U h in
      record {
        state = O.state;
        end = _;
        here = O.here;
        up = feeds_up O.state O.valid;
        few = feeds_few O.state O.valid;
        room = H.kept ∙ m.room;
        feeds = H.each (fits_as H.kept m) O.here (feeds_held O.state O.valid);
      };
}
