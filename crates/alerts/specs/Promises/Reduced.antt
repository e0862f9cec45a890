-- Promise. The test of Applies without what another part implies, and without the table of product codes, which
-- never decides: the form that the code follows. Implied.antt proves both equal.
use Rattle.std.specs.Prelude.{List, [], ◌∷◌, ◌++◌, Bool, cond, not, ◌&&◌, ◌||◌, ℕ, leb, length}
use Rattle.std.proofs.Math.Option.{Option, none, some}
use Prim.Native.String.{String}
use Rattle.basics.specs.Lists.{any, is_empty}
use Rattle.alerts.specs.Text.{text, begins, ends, upper, same_ignoring_case, alphanumeric, trim, split}
use Rattle.basics.specs.Texts.{same}
use Rattle.alerts.specs.Alert.{Alert, informed_trip_ids, informed_route_ids, informed_stop_ids}
use Rattle.alerts.specs.Index.{undated}
use Rattle.alerts.specs.Applies.{is_code, is_none, segment, stop_tail, decided, has_text, road_blob}
use Rattle.alerts.specs.Applies.{is_rail_like_mode, around, names, commercial_lines_in_text, any_marker, advised}
use Rattle.alerts.specs.Applies.{leg_blob}

abbrev pub first_token : List (List ℕ) → Option (List ℕ)
first_token [] = none
first_token (p ∷ l) = let r = first_token l in cond (is_code p) (some (upper p)) r

abbrev pub token : List ℕ → Option (List ℕ)
token x = first_token (split (λ b. not (alphanumeric b)) x)

abbrev pub refs : List ℕ → List ℕ → Bool
refs q r =
    not (is_empty q || is_empty r)
    && (same q r || decided (token q) (token r)
    (leb 3 (length (segment q)) && same_ignoring_case (segment q) (segment r)))

abbrev pub named : List ℕ → List ℕ → Bool
named short r = same_ignoring_case short (trim (segment r)) && is_none (token r) && leb (length (segment r)) 4

abbrev pub hits_route : Alert → List ℕ → List ℕ → Bool
hits_route a route short =
    any (refs route) (informed_route_ids a) || not (is_empty short) && any (named short) (informed_route_ids a)

abbrev pub hits_trip : Alert → List ℕ → Bool
hits_trip a trip =
    not (is_empty (undated trip))
    && any (λ t. same t trip || same t (undated trip) || ends (text ":" ++ undated trip) t) (informed_trip_ids a)

abbrev pub hits_stop : Alert → List ℕ → Bool
hits_stop a stop =
    not (is_empty stop) && any (λ s. same s stop || same_ignoring_case (stop_tail s) (stop_tail stop))
    (informed_stop_ids a)

abbrev pub road : List ℕ → Bool
road blob =
    has_text blob "TRAFIC ROUTIER"
    || has_text blob "ARRET" && (has_text blob "DÉPLACÉ" || has_text blob "DEPLAC") && has_text blob "CIRCULATION"

abbrev pub advice_markers : List (List ℕ)
advice_markers =
    text "PRIVILEGIE" ∷ text "SATURATION" ∷ text "REPORTEZ" ∷ text "REPORTER" ∷ text "UTILISEZ" ∷ text "EMPRUNTEZ"
    ∷ text "EN DIRECTION DE LA LIGNE" ∷ text "VERS LA LIGNE" ∷ text "CORRESPONDANCE AVEC" ∷ []

abbrev pub secondary : List ℕ → List ℕ → Bool
secondary blob short =
    advised advice_markers blob short || any_marker advice_markers blob
    && (has_text blob "RER " || has_text blob "TRAVAUX SUR")

abbrev pub subject_rows : List (String × String)
subject_rows =
    ("RER ", "") ∷ ("RER", "") ∷ ("METRO ", "") ∷ ("INCIDENT LIGNE ", "") ∷ ("LIGNE ", " :") ∷ ("LIGNE ", " -")
    ∷ ("LIGNE ", " INTERRUPT") ∷ ("LIGNE ", " TRAFIC") ∷ []

abbrev pub primary : List ℕ → List ℕ → Bool
primary blob short = names subject_rows blob short || begins (around "LIGNE " short "") blob

abbrev pub text_ok : List ℕ → List (List ℕ) → List ℕ → Bool
text_ok blob lines short =
    is_empty lines
    || any (λ m. same m short) lines
    && not (secondary blob short && any (λ m. not (same m short) && primary blob m) lines)

abbrev pub text_fits : Alert → List ℕ → Bool
text_fits a short = is_empty short || text_ok (leg_blob a) (commercial_lines_in_text (leg_blob a)) (upper short)

abbrev pub hits : Alert → List ℕ → List ℕ → List ℕ → List ℕ → List ℕ → Bool
hits a trip route short from to =
    hits_trip a trip || (hits_stop a from || hits_stop a to) || hits_route a route short && text_fits a short

abbrev pub applies : Alert → List ℕ → List ℕ → List ℕ → List ℕ → List ℕ → List ℕ → Bool
applies a trip route short from to mode =
    not (is_rail_like_mode mode && road (road_blob a)) && hits a trip route (trim short) from to
