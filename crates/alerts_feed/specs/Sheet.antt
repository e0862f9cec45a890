-- Believe: 02, C-11. The alerts of a GTFS Realtime message as an alert sheet: its alerts and their ids in its order.
use Rattle.std.specs.Prelude.{ℕ, List, [], ◌∷◌, map, Bool, not, ◌&&◌}
use Rattle.std.proofs.Common.{inl, inr}
use Rattle.std.proofs.Math.Option.{Option, none, some}
use Rattle.basics.specs.Lists.{filter, is_empty}
use Rattle.basics.specs.Options.{Maybe}
use Rattle.formats.specs.Format.{Value}
use Rattle.realtime.specs.Tree.{Tree, Leaf, count, words, last, sub, rep}
use Rattle.realtime.specs.Typed.{text_in}
use Rattle.realtime.specs.Views.{deleted}
use Rattle.decode.specs.Key.{prefixed}
use Rattle.alerts.specs.Alert.{Alert, alert_sheet}

-- a text that may be absent
abbrev pub text_given : Option Leaf → Maybe (List ℕ)
text_given none = inl tt
text_given (some (count n)) = inl tt
text_given (some (words x)) = inr x

-- the text, 1, of the first translation
abbrev pub first_text : List Tree → Maybe (List ℕ)
first_text [] = inl tt
first_text (t ∷ l) = text_given (last 1 t)

-- of a TranslatedString, by its translations, 1
abbrev pub translated : Tree → Maybe (List ℕ)
translated t = first_text (rep 1 t)

-- the ids that selectors have, in their order: an empty one is passed over
abbrev pub ids_of : (Tree → List ℕ) → List Tree → List (List ℕ)
ids_of id l = filter (λ x. not (is_empty x)) (map id l)

-- each with the feed's prefix
abbrev pub ids_by : (Tree → List ℕ) → List ℕ → List Tree → List (List ℕ)
ids_by id feed l = map (prefixed feed) (ids_of id l)

-- of an EntitySelector: the trip_id, 1, of its trip, 4; route_id 2; stop_id 5
abbrev pub trip_id : Tree → List ℕ
trip_id s = text_in (last 1 (sub 4 s))

abbrev pub route_id : Tree → List ℕ
route_id s = text_in (last 2 s)

abbrev pub stop_id : Tree → List ℕ
stop_id s = text_in (last 5 s)

-- AN ENTITY'S ALERT, by all its alerts, 5, merged: header_text 10, description_text 11, no cause; of its
-- informed_entities, 5, the trips, the routes and the stops
unfoldable pub alert_in : List ℕ → Tree → Alert
alert_in feed e =
    let a = sub 5 e in
    let selectors = rep 5 a in (
      translated (sub 10 a),
      (
        translated (sub 11 a),
        (
          inl tt,
          (ids_by trip_id feed selectors, (ids_by route_id feed selectors, ids_by stop_id feed selectors)),
        ),
      ),
    )

-- an entity that has an alert, be it empty, and isn't deleted
abbrev pub has_alert : Tree → Bool
has_alert e = not (deleted e) && not (is_empty (rep 5 e))

-- THE SHEET of a message
unfoldable pub sheet_in : List ℕ → Tree → Value alert_sheet
sheet_in feed m = (tt, map (alert_in feed) (filter has_alert (rep 2 m)))
