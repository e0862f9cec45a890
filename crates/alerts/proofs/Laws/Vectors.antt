-- Law. Worked examples, computed: candidates that don't apply, alerts that apply once they are candidates, the lines
-- that a text names.
use Rattle.std.specs.Prelude.{◌≡◌, refl, List, [], ◌∷◌, map, Bool, true, false, ℕ, length, replicate}
use Rattle.std.proofs.Common.{inl, inr}
use Rattle.std.proofs.Math.Option.{none, some}
use Prim.Native.String.{String}
use Rattle.alerts.specs.Text.{text}
use Rattle.alerts.specs.Alert.{Alert}
use Rattle.alerts.specs.Index.{alert_candidates_for_leg}
use Rattle.alerts.specs.Applies.{product_code_token, fold_alert_blob, commercial_lines_in_text}
use Rattle.alerts.specs.Applies.{window, text_compatible, is_road_traffic_alert, alert_applies_to_leg_with_mode}
use Rattle.alerts.specs.Label.{label}

-- an alert with a header, by its ids
abbrev saying : String → List String → List String → List String → Alert
saying h trips routes stops = (inr (text h), (inl tt, (inl tt, (map text trips, (map text routes, map text stops)))))

-- the leg f:1 of the RER B, route f:R, from f:A to f:B
abbrev candidates : Alert → List ℕ
candidates a = alert_candidates_for_leg (a ∷ []) (text "f:1") (text "f:R") (text "f:A") (text "f:B")

abbrev applied : Alert → Bool
applied a = alert_applies_to_leg_with_mode a (text "f:1") (text "f:R") (text "B") (text "f:A") (text "f:B") (text "RER")

abbrev compatible : String → String → Bool
compatible s short = text_compatible (fold_alert_blob (text s)) (text short)

abbrev lines : String → List (List ℕ)
lines s = commercial_lines_in_text (fold_alert_blob (text s))

-- another date of the trip is a candidate, and doesn't apply
other_date : (candidates (saying "Retard" ("f:1@20260101" ∷ []) [] []) ≡ 0 ∷ [])
    × (applied (saying "Retard" ("f:1@20260101" ∷ []) [] []) ≡ false)
other_date = (refl, refl)

-- another trip of the feed is none
other_trip : candidates (saying "Retard" ("f:2" ∷ []) [] []) ≡ []
other_trip = refl

-- a trip id without its feed reaches no leg; a stop id without it does
bare_trip : candidates (saying "Retard" ("1" ∷ []) [] []) ≡ []
bare_trip = refl

bare_stop : candidates (saying "Travaux" [] [] ("A" ∷ [])) ≡ 0 ∷ []
bare_stop = refl

-- a stop id of other case is no candidate, and applies to one
other_case : (candidates (saying "Travaux" [] [] ("f:a" ∷ [])) ≡ [])
    × (applied (saying "Travaux" [] [] ("f:a" ∷ [])) ≡ true)
other_case = (refl, refl)

-- an alert of the route that speaks of another line doesn't apply
other_line : applied (saying "Ligne RER D interrompue" [] ("f:R" ∷ []) []) ≡ false
other_line = refl

this_line : applied (saying "Ligne RER B interrompue" [] ("f:R" ∷ []) []) ≡ true
this_line = refl

-- nor one that only advises the leg's line
advised_line : applied (saying "RER D interrompu. Reportez-vous sur le RER B." [] ("f:R" ∷ []) []) ≡ false
advised_line = refl

-- before a full stop, too
advised_stop : compatible "Metro 4 interrompu. Reportez-vous sur la 1." "1" ≡ false
advised_stop = refl

-- the advice is looked for from 48 bytes before a needle to 24 past it
windows : (length (window (replicate 200 32) 100 7) ≡ 79) × (length (window (replicate 200 32) 9 7) ≡ 40)
windows = (refl, refl)

-- an alert about road traffic applies to no rail leg
road_on_rails : applied (saying "Trafic routier" ("f:1" ∷ []) [] []) ≡ false
road_on_rails = refl

-- lines by parts of words: 1 in 14, B in "Préférer bus", A in "opérera"
lines_named : (lines "Metro 14" ≡ text "1" ∷ text "14" ∷ []) × (lines "Tram T3a interrompu" ≡ text "T3" ∷ [])
    × (lines "Préférer bus" ≡ text "B" ∷ []) × (lines "opérera" ≡ text "A" ∷ [])
lines_named = (refl, refl, refl, refl)

-- accents aren't folded where road traffic is looked for
accented_road : (is_road_traffic_alert (saying "arrêt déplacé circulation" [] [] []) ≡ false)
    × (is_road_traffic_alert (saying "Arret Deplace Circulation" [] [] []) ≡ true)
accented_road = (refl, refl)

-- a header that is empty gives no label; without a header 120 characters of the description do
empty_header : label (saying "" [] [] []) ≡ []
empty_header = refl

long_description : label (inl tt, (inr (replicate 200 97), (inl tt, ([], ([], []))))) ≡ replicate 120 97
long_description = refl

-- the row P of the ride checks: what is a product code
pub product_codes : (product_code_token (text "C017") ≡ none)
    × (product_code_token (text "c0174") ≡ some (text "C0174"))
    × (product_code_token (text "C0174212") ≡ some (text "C0174212")) × (product_code_token (text "C01742123") ≡ none)
product_codes = (refl, refl, refl, refl)
