-- Promise. Which of the leg's ids an alert's ids hit, and what follows: whether the alert applies.
use Rattle.std.specs.Prelude.{◌≡◌, List, Bool, not, ◌&&◌, ◌||◌, ℕ, ◌<◌, eqb, length}
use Rattle.formats_read.specs.Promises.Here.{Here}
use Rattle.alerts.specs.Alert.{alert, Alert, cause, or_empty_text}
use Rattle.alerts.specs.Text.{trim}
use Rattle.alerts.specs.Applies.{road_blob, is_rail_like_mode, alert_applies_to_leg_with_mode}
use Rattle.alerts.specs.Promises.Reduced.{hits_trip, hits_stop, hits_route, text_fits, road}
use Rattle.alerts_apply.specs.declared.hits.Hit.{Hit}
use Rattle.alerts_apply.specs.Promises.Texts.{taken}
use Rattle.alerts_apply.specs.Promises.Words.{WordsSay}

abbrev pub unless : ℕ → Bool → Bool
unless n hit = not (eqb n 0) && hit

-- the short name is trimmed
pub record HitBy (trip route short from to s : List ℕ) (p : ℕ) (h : Hit) : Type 0 where
  pub by_trip : {a : Alert} {q : ℕ} → Here alert s p q a → h.trip ≡ hits_trip a trip
  pub by_route : {a : Alert} {q : ℕ} → Here alert s p q a → (whole : List ℕ) → short ≡ trim whole
      → h.route ≡ hits_route a route short
  pub by_stop : {a : Alert} {q : ℕ} → Here alert s p q a → h.stop ≡ hits_stop a from || hits_stop a to

abbrev pub hit_any : Hit → Bool
hit_any h = h.trip || h.stop || h.route

-- room for an alert's texts: with its cause, and with the line's name
pub record Room (a : Alert) (short : List ℕ) (n : ℕ) : Type 0 where
  pub road : taken a (length (or_empty_text (cause a))) < n
  pub name : taken a (length short) < n

-- the answers of the tests, in the order in which they are asked; `words` is what is known of the alert's texts
pub record Clear (s : List ℕ) (p : ℕ) (mode : List ℕ) (r : Bool) (old new w w' : List ℕ) : Type 0 where
  pub kept : length new ≡ length old
  pub words : length w' ≡ length w
  pub says : WordsSay (length old) s p w → WordsSay (length old) s p w'
  pub is : WordsSay (length old) s p w → {a : Alert} {q : ℕ} → Here alert s p q a
      → taken a (length (or_empty_text (cause a))) < length old → r ≡ not (is_rail_like_mode mode && road (road_blob a))

abbrev pub told_of : Hit → Alert → List ℕ → Bool
told_of h a short = h.trip || h.stop || h.route && text_fits a short

pub record Told (s : List ℕ) (p : ℕ) (short : List ℕ) (h : Hit) (r : Bool) (old new w w' : List ℕ) : Type 0 where
  pub kept : length new ≡ length old
  pub words : length w' ≡ length w
  pub says : WordsSay (length old) s p w → WordsSay (length old) s p w'
  pub is : WordsSay (length old) s p w → {a : Alert} {q : ℕ} → Here alert s p q a → taken a (length short) < length old
      → r ≡ told_of h a short

abbrev pub decided_of : Hit → Alert → List ℕ → List ℕ → Bool
decided_of h a short mode = not (is_rail_like_mode mode && road (road_blob a)) && told_of h a short

pub record Decided (s : List ℕ) (p : ℕ) (short mode : List ℕ) (h : Hit) (r : Bool) (old new w w' : List ℕ)
    : Type 0 where
  pub kept : length new ≡ length old
  pub words : length w' ≡ length w
  pub says : WordsSay (length old) s p w → WordsSay (length old) s p w'
  pub is : WordsSay (length old) s p w → {a : Alert} {q : ℕ} → Here alert s p q a → Room a short (length old)
      → r ≡ decided_of h a short mode

pub record DecidedNew (s : List ℕ) (p : ℕ) (short mode : List ℕ) (h : Hit) (r : Bool) (old new : List ℕ)
    : Type 0 where
  pub kept : length new ≡ length old
  pub is : {a : Alert} {q : ℕ} → Here alert s p q a → Room a short (length old) → r ≡ decided_of h a short mode

pub record Applied (trip route short from to mode s : List ℕ) (p : ℕ) (r : Bool) (old new : List ℕ) : Type 0 where
  pub kept : length new ≡ length old
  pub is : {a : Alert} {q : ℕ} → Here alert s p q a → Room a (trim short) (length old)
      → r ≡ alert_applies_to_leg_with_mode a trip route short from to mode
