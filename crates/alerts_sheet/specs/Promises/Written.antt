-- Promise. What is written of a message's alerts: the ids of an entity's selectors, its alert, and all that are kept.
use Rattle.std.specs.Prelude.{ℕ, ◌≤◌, ◌≡◌, List, ◌∷◌, ◌++◌, map, true, length, Option}
use Rattle.std.proofs.Math.Option.{some}
use Rattle.basics.specs.Lists.{all}
use Rattle.formats.specs.Format.{write}
use Rattle.formats.specs.Readers.{many_w}
use Rattle.formats_write.specs.Promises.Adds.{Adds}
use Rattle.formats_write.specs.Promises.Given.{text_w}
use Rattle.realtime.specs.Tree.{Tree, tree}
use Rattle.realtime.specs.Schema.{feed, alert_message}
use Rattle.decode.specs.Sizes.{most_feed, most_message}
use Rattle.alerts.specs.Alert.{ids, alert, alert_sheet}
use Rattle.alerts_feed.specs.Sheet.{ids_by, alert_in, sheet_in}
use Rattle.alerts_views.specs.Promises.Views.{entity_at, selectors, id_of, few, kept_in}
use Rattle.alerts_sheet.specs.declared.Ids.{Ids}

-- how long a feed's id and a message may be
pub record Short (name s : List ℕ) : Type 0 where
  pub feed : length name ≤ most_feed
  pub message : length s ≤ most_message

-- an id with the feed and ':' in front
abbrev pub named : List ℕ → List ℕ → List ℕ
named name id = name ++ 58 ∷ id

-- the ids of an entity's alert with the feed's prefix
abbrev pub named_ids : ℕ → List ℕ → Tree → List (List ℕ)
named_ids kind name e = ids_by (id_of kind) name (selectors e)

-- one after the other, and how many they are
pub record ListedIds (kind : ℕ) (name s : List ℕ) (i n : ℕ) (l : List ℕ) (r : Option ℕ) (m : List ℕ)
    (k : Ids) : Type 0 where
  pub adds : (e : Tree) → entity_at s i n ≡ some e → Adds l r m k.next (many_w text_w (named_ids kind name e))
  pub counted : (e : Tree) → entity_at s i n ≡ some e → k.count ≡ length (named_ids kind name e)

pub record WrittenIds (kind : ℕ) (name s : List ℕ) (i n : ℕ) (l : List ℕ) (r : Option ℕ) (m : List ℕ) (q : Option ℕ) :
    Type 0 where
  pub of : (e : Tree) → entity_at s i n ≡ some e → Adds l r m q (write ids (named_ids kind name e))

-- an entity's alert
pub record WrittenAlert (name s : List ℕ) (i n : ℕ) (l : List ℕ) (r : Option ℕ) (m : List ℕ)
    (q : Option ℕ) : Type 0 where
  pub of : (e : Tree) → entity_at s i n ≡ some e → Adds l r m q (write alert (alert_in name e))

-- a message whose alerts can be written: not broken, and each that is kept has few ids
pub record Fair (s : List ℕ) : Type 0 where
  pub message : Tree
  pub whole : tree feed alert_message s ≡ some message
  pub fair : all few (kept_in message) ≡ true

-- and n of them are kept
pub record Sheetable (s : List ℕ) (n : ℕ) : Type 0 where
  pub alerts : Fair s
  pub counted : n ≡ length (kept_in alerts.message)

-- the alerts of a message, and its sheet
pub record WrittenAlerts (name s : List ℕ) (l : List ℕ) (r : Option ℕ) (m : List ℕ) (q : Option ℕ) : Type 0 where
  pub of : (t : Tree) → tree feed alert_message s ≡ some t
      → Adds l r m q (many_w (write alert) (map (alert_in name) (kept_in t)))

pub record WrittenSheet (name s : List ℕ) (l : List ℕ) (r : Option ℕ) (m : List ℕ) (q : Option ℕ) : Type 0 where
  pub of : (t : Tree) → tree feed alert_message s ≡ some t → Adds l r m q (write alert_sheet (sheet_in name t))
