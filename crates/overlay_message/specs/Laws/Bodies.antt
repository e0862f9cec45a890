-- Law. A feed as a message leaves it, written part by part.
use Rattle.std.specs.Prelude.{ℕ, suc, ◌+◌, ◌-◌, ◌*◌, ◌≤◌, ◌<◌, ◌≡◌, refl, List, [], ◌∷◌, ◌++◌, ℤ, length, Option, Some, None}
use Rattle.std.proofs.Common.{sym, ap, ap₂, subst, ◌∙◌, arith, lt-ltb, le-ltb}
use Rattle.std.proofs.Math.Option.{some}
use Rattle.std.proofs.Math.Seq.{slice}
use Rattle.basics.specs.Options.{Maybe}
use Rattle.formats.specs.Number.{number_w, zig}
use Rattle.formats.specs.Format.{list, write}
use Rattle.formats_write.specs.Laws.Adds.{then, same, wrote}
use Rattle.formats_write.specs.Laws.Slices.{slice_join}
use Rattle.formats_write.specs.Promises.Adds.{Adds, Wrote}
use Rattle.formats_write.specs.Promises.Given.{optional_w, given_signed}
use Rattle.realtime.specs.Tree.{Tree, tree}
use Rattle.realtime.specs.Schema.{feed_message}
use Rattle.realtime.specs.Schema as schema
use Rattle.realtime.specs.Typed.{int64}
use Rattle.realtime_views.specs.declared.Header.{Header}
use Rattle.realtime_views.specs.Promises.Views.{HeaderRead, view_timestamp}
use Rattle.decode.specs.Sizes.{most_trips}
use Rattle.decode.specs.Trip.{trip_entry}
use Rattle.decode.specs.Leaves.{Trips, count_without_at}
use Rattle.decode_write.specs.Promises.Written.{signed_w}
use Rattle.alerts.specs.Alert.{alert}
use Rattle.overlay.specs.Change.{put_feed}
use Rattle.overlay.specs.State.{Feed, State, feed, feed_with, overlay, vehicle_entry, vehicles_of, alerts_of, version_of}
use Rattle.overlay_feeds.specs.declared.Parts.{Parts}
use Rattle.overlay_feeds.specs.Promises.Parts.{PartsOf}
use Rattle.overlay_frame.specs.Laws.Frame.{framed}
use Rattle.overlay_frame.specs.Promises.Frame.{Spot, opening_w, closing_w}
use Rattle.overlay_message.specs.Promises.Message.{feed_after, timestamp_after}

-- vehicles and alerts stand one after the other
module _ {h : List ℕ} {F : Feed} {a e : ℕ} {p : Parts} (P : PartsOf h F a e p) where
  rest_written : slice p.vehicles p.end h
      ≡ write (list 1024 vehicle_entry) (vehicles_of F) ++ write (list 256 alert) (alerts_of F)
  rest_written =
      sym (slice_join p.vehicles p.alerts p.end h P.vehicles_here.forward P.alerts_here.forward
      P.alerts_here.within)
      ∙ ap₂ ◌++◌ P.vehicles_here.written P.alerts_here.written

  pub body_adds : {l₀ l₁ l₂ l₃ l₄ : List ℕ} {r₀ r₁ r₂ r₃ r₄ : Option ℕ} (v : Maybe ℤ) (n : ℕ) (T : Trips)
      → Adds l₀ r₀ l₁ r₁ (optional_w signed_w v) → Adds l₁ r₁ l₂ r₂ (number_w n)
      → Adds l₂ r₂ l₃ r₃ (write (list most_trips trip_entry) T)
      → (p.vehicles ≤ p.end → p.end ≤ length h → Adds l₃ r₃ l₄ r₄ (slice p.vehicles p.end h))
      → Adds l₀ r₀ l₄ r₄ (write feed (feed_with v n T (vehicles_of F) (alerts_of F)))
  body_adds v n T x y z w =
      let k : p.vehicles ≤ p.end = omega (arith, P.vehicles_here.forward, P.alerts_here.forward) in
      then x (then y (then z (same (w k P.alerts_here.within) rest_written)))

-- the message's timestamp and the count of what it leaves
pub feed_adds : {l m : List ℕ} {r q : Option ℕ} {h s : List ℕ} {F : Feed} {a e : ℕ} {p : Parts} {t : Tree} {d : Header}
    {c : ℕ} (f : List ℕ) (T : Trips) → PartsOf h F a e p → tree schema.feed feed_message s ≡ some t
    → HeaderRead schema.feed s d → c ≡ count_without_at f T
    → Adds l r m q (write feed
    (feed_with (timestamp_after (view_timestamp d.timestamp) (given_signed p.timestamp)) c T
    (vehicles_of F) (alerts_of F)))
    → Adds l r m q (write feed (feed_after f t F T))
feed_adds {s} {F} {p} {t} {d} f T P is H c x =
    same x
    (ap₂ (λ v n. write feed (feed_with v n T (vehicles_of F) (alerts_of F)))
    (ap₂ timestamp_after (ap (λ h. h.timestamp) (H.of t is)) P.timestamp_is) c)

-- a timestamp: of the message, and the old one
pub timestamp_new : {l m o : List ℕ} {r q k : Option ℕ} (g : Option ℕ) (v : Maybe ℤ) {n c : ℕ} → g ≡ Some n
    → c ≡ zig (int64 n) → Adds l r m q (1 ∷ []) → Adds m q o k (number_w c)
    → Adds l r o k (optional_w signed_w (timestamp_after (view_timestamp g) v))
timestamp_new g v e d a b = rw e (then a (same b (ap number_w d)))

pub timestamp_old : {l m : List ℕ} {r q : Option ℕ} (g : Option ℕ) (v : Maybe ℤ) → g ≡ None
    → Adds l r m q (optional_w signed_w v) → Adds l r m q (optional_w signed_w (timestamp_after (view_timestamp g) v))
timestamp_old g v e a = rw e a

-- the state around it
pub state_wrote : {l₀ l₁ l₂ l₃ : List ℕ} {r₁ r₂ r₃ : Option ℕ} {b : List ℕ} {q : ℕ} {st : State} {f : List ℕ}
    {from to count version : ℕ} (F : Feed) (S : Spot b q st f from to count) → version ≡ version_of st
    → Adds l₀ (Some 0) l₁ r₁ (opening_w version count S.front f) → Adds l₁ r₁ l₂ r₂ (write feed F)
    → Adds l₂ r₂ l₃ r₃ (closing_w S.back) → Wrote l₀ l₃ r₃ (write overlay (put_feed f F (version_of st) st))
state_wrote {l₀} {l₃} {r₃} {st} {f} {version} F S e a b c =
    subst (λ v. Wrote l₀ l₃ r₃ (write overlay (put_feed f F v st))) e (wrote (framed S version F a b c))

-- 64 bits read as signed, and their code
pub lower_code : (n : ℕ) → n < 9223372036854775808 → 2 * n ≡ zig (int64 n)
lower_code n h = rw (lt-ltb n 9223372036854775808 h) refl

pub upper_code : (n : ℕ) → 9223372036854775808 ≤ n → n < 18446744073709551616
    → 2 * (18446744073709551615 - n) + 1 ≡ zig (int64 n)
upper_code n h k =
    let e : 18446744073709551615 - n ≡ 18446744073709551616 - suc n = omega arith in
    rw (le-ltb n 9223372036854775808 h) (ap (λ m. 2 * m + 1) e)
