-- `write_alerts` on plain values: the alerts so far and those of the entities that are left. Assumes nothing.
use Rattle.std.specs.Prelude.{Option}
use Prim.Native.Nat.{ℕ, ◌+◌, ◌≤◌, ◌<◌}
use mathlib.Core.Path.{◌≡◌, refl, sym, ap, subst, ◌∙◌}
use mathlib.Core.Bool.{Bool, true, false}
use mathlib.Core.List.{List, ◌∷◌, map}
use mathlib.Core.Option.{some}
use native.Mathlib.Omega.{arith}
use lib.ListN.{length, take, drop}
use lib.Seq.{take-length}
use Rattle.basics.specs.Lists.{all, filter}
use Rattle.basics.specs.Laws.Booleans.{and_true}
use Rattle.formats.specs.Format.{write}
use Rattle.realtime.specs.Tree.{Tree, tree, rep}
use Rattle.realtime.specs.Schema.{feed, alert_message, alert_entity}
use Rattle.realtime_views.specs.Laws.Turns as turns
use Rattle.realtime_views.specs.Laws.Starts.{left_items, items_sound}
use Rattle.realtime_views.specs.Promises.Starts.{at_items, at_plain}
use Rattle.realtime_views.specs.Promises.Walks.{SoundWalk, Yields, ahead, left}
use Rattle.realtime_views.specs.declared.Item.{Item}
use Rattle.realtime_views.specs.declared.Walk.{Walk}
use Rattle.alerts.specs.Alert.{alert}
use Rattle.alerts_feed.specs.Sheet.{alert_in, has_alert}
use Rattle.alerts_views.specs.Promises.Views.{LeftRead, Writable, entity_at, few, kept_in}
use Rattle.alerts_sheet.specs.Promises.Written.{Fair, WrittenAlert, WrittenAlerts}
use Rattle.alerts_sheet.proofs.Progress.{Progress, begins, goes_on, is_done, still}

-- the alerts of the entities in z that are kept, are left
pub record Kept (name l : List ℕ) (r : Option ℕ) (m : List ℕ) (q : Option ℕ) (t : Tree) (z : List Tree) : Type 0 where
  pub progress : Progress (write alert) l r m q (map (alert_in name) (kept_in t))
      (map (alert_in name) (filter has_alert z))
  pub fair : all few (kept_in t) ≡ true → all few (filter has_alert z) ≡ true

-- THE INVARIANT
pub record Keeping (name s l : List ℕ) (r : Option ℕ) (m : List ℕ) (q : Option ℕ) (w : Walk) : Type 0 where
  pub walked : turns.Walked feed alert_message 0 alert_message 2 alert_message s 0 (length s) (Kept name l r m q) w

-- a message is its own front
front_whole : (s : List ℕ) → s ≡ take (0 + length s) s
front_whole s = let z : length s ≡ 0 + length s = omega arith in sym (take-length s) ∙ ap (λ n. take n s) z

abbrev Whole : List ℕ → Tree → Type 0
Whole s t = tree feed alert_message (take (length s) (drop 0 s)) ≡ some t

as_whole : (s : List ℕ) (t : Tree) → tree feed alert_message s ≡ some t → Whole s t
as_whole s t e = ap (tree feed alert_message) (take-length s) ∙ e

pub keeping : (name s : List ℕ) {l : List ℕ} {r : Option ℕ} {w : Walk} → w ≡ at_plain s → Keeping name s l r l r w
keeping name s {w} e =
    let z : length s ≡ 0 + length s = omega arith in
    let i : 0 + length s ≤ length s = omega arith in
    let p : w ≡ at_items 0 (0 + length s) = e ∙ ap (at_items 0) z in
    record {
      walked = turns.starts s 0 (length s) (rep 2) i
          (items_sound 0 (0 + length s) (omega arith) (omega (arith, turns.front_length s (0 + length s) i)) p)
          (ap (left feed alert_message 0 alert_message 2 (take (0 + length s) s)) p
          ∙ left_items feed alert_message 0 alert_message 2 s 0 (length s) i)
          (λ t. record { progress = begins; fair = λ h. h });
    }

-- an entity that is kept, or is not, before others
kept_some : (y : Tree) (z : List Tree) → has_alert y ≡ true → filter has_alert (y ∷ z) ≡ y ∷ filter has_alert z
kept_some y z h = rw h refl

kept_none : (y : Tree) (z : List Tree) → has_alert y ≡ false → filter has_alert (y ∷ z) ≡ filter has_alert z
kept_none y z h = rw h refl

fair_both : (y : Tree) (z : List Tree) → all few (y ∷ z) ≡ true → (few y ≡ true) × (all few z ≡ true)
fair_both y z h = and_true h

module _ {name s l : List ℕ} {r : Option ℕ} {m : List ℕ} {q : Option ℕ} {w : Walk} (K : Keeping name s l r m q w) where
  pub keeps_sound : SoundWalk s w.outer w.end w.at
  keeps_sound = turns.walks K.walked (front_whole s)

  pub keeps_length : Fair s → length m ≡ length l
  keeps_length F = (K.walked.of F.message (as_whole s F.message F.whole)).holds.progress.adds.size

  module _ {o : Item} (N : Yields feed alert_message 0 alert_message 2 alert_entity s w o) where
    -- no entity is left
    pub kept_all : o ≡ Item.Done → WrittenAlerts name s l r m q
    kept_all d = record {
      of = λ t e. is_done (turns.ends K.walked (front_whole s) N d t (as_whole s t e)).progress;
    }

    module _ {i k : ℕ} {w' : Walk} (a : o ≡ Item.At i k w') where
      pub keeps_there : i + k ≤ length s
      keeps_there = turns.there K.walked (front_whole s) N a

      pub keeps_less : ahead s w' < ahead s w
      keeps_less =
          subst (λ x. ahead x w' < ahead x w) (sym (front_whole s)) (turns.less K.walked (front_whole s) N a)

      -- the first of those that are left
      first : turns.Walked feed alert_message 0 alert_message 2 alert_message s 0 (length s)
          (λ t z. (y : Tree) × (entity_at s i k ≡ some y) × Kept name l r m q t (y ∷ z)) w'
      first = turns.walks_on K.walked (front_whole s) N a (λ t y z f g H. (y, g, H))

      module _ {b : Bool} (R : LeftRead s i k b) where
        -- it can be written
        pub keeps_writable : Fair s → b ≡ true → Writable s i k
        keeps_writable F h =
            let L = first.of F.message (as_whole s F.message F.whole) in
            let (y, g, H) = L.holds in
            let v = kept_some y L.trees (sym (R.of y g) ∙ h) in
            record {
              inside = keeps_there;
              entity = y;
              whole = g;
              fair = (fair_both y (filter has_alert L.trees) (ap (all few) (sym v) ∙ H.fair F.fair)).0;
            }

        -- it is written
        pub keeps_on : {m' : List ℕ} {q' : Option ℕ} → b ≡ true → WrittenAlert name s i k m q m' q'
            → Keeping name s l r m' q' w'
        keeps_on h A = record {
          walked = turns.walks_on K.walked (front_whole s) N a (λ t y z f g H.
              let v = kept_some y z (sym (R.of y g) ∙ h) in
              record {
                progress = goes_on (still H.progress (ap (map (alert_in name)) v)) (A.of y g);
                fair = λ p. (fair_both y (filter has_alert z) (ap (all few) (sym v) ∙ H.fair p)).1;
              });
        }

        -- or is not kept
        pub keeps_past : b ≡ false → Keeping name s l r m q w'
        keeps_past h = record {
          walked = turns.walks_on K.walked (front_whole s) N a (λ t y z f g H.
              let v = kept_none y z (sym (R.of y g) ∙ h) in
              record {
                progress = still H.progress (ap (map (alert_in name)) v);
                fair = λ p. ap (all few) (sym v) ∙ H.fair p;
              });
        }
