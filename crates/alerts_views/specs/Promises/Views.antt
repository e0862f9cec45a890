-- Promise. What the code's answers on an entity's alert say of the bytes: whether it counts, its words, its selectors'
-- ids and how many there are.
use Rattle.std.specs.Prelude.{ℕ, ◌+◌, ◌≤◌, min, ◌≡◌, List, Bool, true, cond, ◌&&◌, eqb, leb, length, take, drop, Option}
use Rattle.std.proofs.Math.Option.{Option as LogicOption, some}
use Rattle.basics.specs.Lists.{filter, all}
use Rattle.formats_write.specs.Promises.Given.{given_text, Inside}
use Rattle.realtime.specs.Tree.{Tree, tree, sub, rep}
use Rattle.realtime.specs.Schema.{feed, alert_message, alert_entity, entity_selector}
use Rattle.realtime_views.specs.declared.TextPart.{TextPart}
use Rattle.realtime_views.specs.Promises.Views.{part_in, PartInside}
use Rattle.alerts_feed.specs.Sheet.{has_alert, translated, trip_id, route_id, stop_id, ids_of}
use Rattle.formats.specs.declared.Span.{Span}

-- the entity, and the selector, in l bytes at i of s
abbrev pub entity_at : List ℕ → ℕ → ℕ → LogicOption Tree
entity_at s i l = tree feed alert_entity (take l (drop i s))

abbrev pub selector_at : List ℕ → ℕ → ℕ → LogicOption Tree
selector_at s i l = tree feed entity_selector (take l (drop i s))

-- the selectors, 5, of all the alerts, 5, of an entity
abbrev pub selectors : Tree → List Tree
selectors e = rep 5 (sub 5 e)

-- the id of a selector by the number of its field: trip 4, route_id 2, stop_id 5
abbrev pub id_of : ℕ → Tree → List ℕ
id_of kind x = cond (eqb kind 4) (trip_id x) (cond (eqb kind 2) (route_id x) (stop_id x))

-- the ids of an entity's alert, and whether no list has more than 32
abbrev pub ids_in : ℕ → Tree → List (List ℕ)
ids_in kind e = ids_of (id_of kind) (selectors e)

abbrev pub few : Tree → Bool
few e = leb (length (ids_in 4 e)) 32 && (leb (length (ids_in 2 e)) 32 && leb (length (ids_in 5 e)) 32)

-- the entities of a message whose alerts are kept
abbrev pub kept_in : Tree → List Tree
kept_in m = filter has_alert (rep 2 m)

-- THE ANSWERS: where the bytes are not broken, they say what the tree says, and their texts lie in the bytes
pub record LeftRead (s : List ℕ) (i l : ℕ) (r : Bool) : Type 0 where
  pub of : (e : Tree) → entity_at s i l ≡ some e → r ≡ has_alert e

-- the words of header_text, k is 10, or of description_text, 11
pub record WordsRead (s : List ℕ) (i l k : ℕ) (r : Option Span) : Type 0 where
  pub of : (e : Tree) → entity_at s i l ≡ some e → given_text s r ≡ translated (sub k (sub 5 e))
  pub inside : Inside s r

pub record IdRead (s : List ℕ) (i l kind : ℕ) (r : TextPart) : Type 0 where
  pub of : (x : Tree) → selector_at s i l ≡ some x → part_in s r ≡ id_of kind x
  pub inside : PartInside (length s) r

-- above 32 it is 33
pub record CountRead (s : List ℕ) (i l kind : ℕ) (r : ℕ) : Type 0 where
  pub of : (e : Tree) → entity_at s i l ≡ some e → r ≡ min 33 (length (ids_in kind e))

pub record FewRead (s : List ℕ) (i l : ℕ) (r : Bool) : Type 0 where
  pub of : (e : Tree) → entity_at s i l ≡ some e → r ≡ few e

-- how many alerts of a message are kept; 257 where they are more than 256, or one of them has too many ids
abbrev pub kept_count : List Tree → ℕ
kept_count l = cond (all few l && leb (length l) 256) (length l) 257

pub record KeptRead (s : List ℕ) (r : ℕ) : Type 0 where
  pub of : (m : Tree) → tree feed alert_message s ≡ some m → r ≡ kept_count (kept_in m)

-- an entity whose alert can be written: not broken, and with few ids
pub record Writable (s : List ℕ) (i l : ℕ) : Type 0 where
  pub inside : i + l ≤ length s
  pub entity : Tree
  pub whole : entity_at s i l ≡ some entity
  pub fair : few entity ≡ true
