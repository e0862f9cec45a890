-- Believe: 01, Times and status. Whether an alert applies to a leg: `alert_applies_to_leg_with_mode` and all that it
-- calls, under the names of the Rust. A text that is lent in parts is joined here; `&blob[start..end]` is those
-- bytes, also where a character is cut.
use Rattle.std.specs.Prelude.{List, [], ◌∷◌, ◌++◌, Bool, true, false, cond, not, ◌&&◌, ◌||◌, ℕ, ◌+◌, ◌-◌, ◌*◌, leb, ltb, eqb, length, take, drop}
use Rattle.std.proofs.Math.Option.{Option, none, some}
use Prim.Native.String.{String}
use Prim.Native.String as String
use Prim.Native.Char.{code}
use Rattle.basics.specs.Lists.{all, any, member, filter, is_empty}
use Rattle.alerts.specs.Text.{text, begins, ends, contains, find, upper_byte, upper, same_ignoring_case, digit}
use Rattle.alerts.specs.Text.{alphanumeric, trim, split}
use Rattle.basics.specs.Texts.{same}
use Rattle.alerts.specs.Alert.{Alert, header, description, cause, informed_trip_ids, informed_route_ids}
use Rattle.alerts.specs.Alert.{informed_stop_ids, or_empty_text}
use Rattle.alerts.specs.Index.{undated, tail}

-- the product code in an id: the first run of letters and digits that is C and 4 to 7 digits
abbrev pub is_code : List ℕ → Bool
is_code [] = false
is_code (b ∷ s) = leb 4 (length s) && leb (length s) 7 && eqb (upper_byte b) 67 && all digit s

abbrev pub first_code : List (List ℕ) → Option (List ℕ)
first_code [] = none
first_code (p ∷ l) = let r = first_code l in cond (is_code (trim p)) (some (upper (trim p))) r

abbrev pub product_code_token : List ℕ → Option (List ℕ)
product_code_token raw = first_code (split (λ b. not (alphanumeric b)) raw)

-- the last piece of an id, cut at ':' and '/', that a test takes, or else the id
abbrev pub last_of : (List ℕ → Bool) → List ℕ → List (List ℕ) → List ℕ
last_of p whole [] = whole
last_of p whole (x ∷ l) = last_of p (cond (p x) x whole) l

abbrev pub rfind : (List ℕ → Bool) → List ℕ → List ℕ
rfind p x = last_of p x (split (λ b. eqb b 0x3a || eqb b 0x2f) x)

abbrev pub segment : List ℕ → List ℕ
segment x = rfind (λ p. not (is_empty p)) x

abbrev pub stop_tail : List ℕ → List ℕ
stop_tail x = rfind (λ p. not (is_empty p) && any alphanumeric p) x

-- two product codes decide; else the tails do
abbrev pub decided : Option (List ℕ) → Option (List ℕ) → Bool → Bool
decided none b other = other
decided (some a) none other = other
decided (some a) (some b) other = same a b

abbrev pub tails_match : List ℕ → List ℕ → Bool
tails_match leg informed = not (is_empty leg) && leb 3 (length leg) && same_ignoring_case leg informed

abbrev pub route_refs_match : List ℕ → List ℕ → Bool
route_refs_match leg informed =
    cond (is_empty leg || is_empty informed) false
    (cond (same leg informed) true
    (decided (product_code_token leg) (product_code_token informed) (tails_match (segment leg) (segment informed))))

abbrev pub short_names_equal : List ℕ → List ℕ → Bool
short_names_equal leg other =
    cond (is_empty (trim leg) || is_empty (trim other)) false (same_ignoring_case (trim leg) (trim other))

-- road traffic
abbrev pub has_text : List ℕ → String → Bool
has_text blob s = contains (text s) blob

abbrev pub road_blob : Alert → List ℕ
road_blob a =
    upper (or_empty_text (header a) ++ text " " ++ or_empty_text (description a) ++ text " " ++ or_empty_text (cause a))

abbrev pub road_traffic : List ℕ → Bool
road_traffic blob =
    has_text blob "TRAFIC ROUTIER" || has_text blob "INFO TRAFIC ROUTIER"
    || (has_text blob "ARRET" && (has_text blob "DEPLACE" || has_text blob "DÉPLACÉ" || has_text blob "DEPLAC"))
    && (has_text blob "CIRCULATION" || has_text blob "SENS DE CIRCULATION")

abbrev pub is_road_traffic_alert : Alert → Bool
is_road_traffic_alert a = road_traffic (road_blob a)

abbrev pub rail_modes : List (List ℕ)
rail_modes =
    text "RAIL" ∷ text "TRAIN" ∷ text "METRO" ∷ text "SUBWAY" ∷ text "TRAM" ∷ text "TRAMWAY" ∷ text "RER" ∷ []

abbrev pub is_rail_like_mode : List ℕ → Bool
is_rail_like_mode mode = any (same (upper mode)) rail_modes

-- accented letters of the Latin-1 block, C3 and a byte in UTF-8, become plain capitals; then ASCII letters become
-- capitals
abbrev pub codes : String → List ℕ
codes String.[] = []
codes (String.◌∷◌ c s) = code c ∷ codes s

abbrev pub accents : List (ℕ × List ℕ)
accents =
    (65, codes "àâäáÀÂÄÁ") ∷ (69, codes "éèêëÉÈÊË") ∷ (73, codes "îïíÎÏÍ") ∷ (79, codes "ôöóÔÖÓ")
    ∷ (85, codes "ùûüúÙÛÜÚ") ∷ (67, codes "çÇ") ∷ []

abbrev pub plain_letter : ℕ → List (ℕ × List ℕ) → Option ℕ
plain_letter c [] = none
plain_letter c (row ∷ l) = let r = plain_letter c l in cond (member c row.1) (some row.0) r

abbrev pub unaccented : ℕ → ℕ → Option ℕ
unaccented a b = cond (eqb a 0xc3) (plain_letter (b + 64) accents) none

abbrev pub folded : Option ℕ → ℕ → List ℕ → List ℕ → List ℕ
folded (some letter) a past next = letter ∷ past
folded none a past next = upper_byte a ∷ next

abbrev pub fold_alert_blob : List ℕ → List ℕ
fold_alert_blob [] = []
fold_alert_blob (a ∷ []) = upper_byte a ∷ []
fold_alert_blob (a ∷ b ∷ s) =
    let past = fold_alert_blob s in
    let next = fold_alert_blob (b ∷ s) in
    folded (unaccented a b) a past next

-- the lines that a text names: each is pushed once
abbrev pub letters : List (List ℕ)
letters = text "A" ∷ text "B" ∷ text "C" ∷ text "D" ∷ text "E" ∷ []

abbrev pub numerals : List (List ℕ)
numerals =
    text "1" ∷ text "2" ∷ text "3" ∷ text "4" ∷ text "5" ∷ text "6" ∷ text "7" ∷ text "8" ∷ text "9" ∷ text "10"
    ∷ text "11" ∷ text "12" ∷ text "13" ∷ text "14" ∷ []

abbrev pub trams : List (List ℕ)
trams =
    text "T1" ∷ text "T2" ∷ text "T3" ∷ text "T4" ∷ text "T5" ∷ text "T6" ∷ text "T7" ∷ text "T8" ∷ text "T9"
    ∷ text "T10" ∷ text "T11" ∷ text "T12" ∷ text "T13" ∷ []

-- a line's name between two texts; a row of patterns is the text before and the text after
abbrev pub around : String → List ℕ → String → List ℕ
around s name t = text s ++ name ++ text t

abbrev pub names : List (String × String) → List ℕ → List ℕ → Bool
names rows blob name = any (λ r. contains (around r.0 name r.1) blob) rows

abbrev pub letter_rows : List (String × String)
letter_rows = ("RER ", "") ∷ ("RER", "") ∷ []

abbrev pub number_rows : List (String × String)
number_rows = ("METRO ", "") ∷ ("METRO", "") ∷ ("LIGNE ", "") ∷ ("LIGNES ", "") ∷ []

abbrev pub bare_rows : List (String × String)
bare_rows = (" ", " ") ∷ (" ", ".") ∷ (" ", ",") ∷ ("ET ", "") ∷ []

abbrev pub names_number : List ℕ → List ℕ → Bool
names_number blob n =
    names number_rows blob n
    || (names bare_rows blob n || ends (around " " n "") blob) && (has_text blob "LIGNE" || has_text blob "METRO")

abbrev pub names_tram : List ℕ → List ℕ → Bool
names_tram blob t = contains t blob && (has_text blob "TRAM" || contains (around " " t "") blob)

abbrev pub commercial_lines_in_text : List ℕ → List (List ℕ)
commercial_lines_in_text blob =
    filter (names letter_rows blob) letters ++ filter (names_number blob) numerals ++ filter (names_tram blob) trams

-- a line that is named as advice: a marker near its first place, or anywhere in a text about RER or works
abbrev pub markers : List (List ℕ)
markers =
    text "PRIVILEGIE" ∷ text "PRIVILEGIEZ" ∷ text "SATURATION" ∷ text "REPORTEZ" ∷ text "REPORTER" ∷ text "UTILISEZ"
    ∷ text "EMPRUNTEZ" ∷ text "EN DIRECTION DE LA LIGNE" ∷ text "VERS LA LIGNE" ∷ text "CORRESPONDANCE AVEC" ∷ []

abbrev pub any_marker : List (List ℕ) → List ℕ → Bool
any_marker l s = any (λ m. contains m s) l

abbrev pub needle_rows : List (String × String)
needle_rows = ("LIGNE ", "") ∷ ("LIGNES ", "") ∷ ("METRO ", "") ∷ (" ET ", "") ∷ (" ", " ") ∷ (" ", ".") ∷ []

-- 48 bytes before a needle to 24 past it, as far as the text goes
abbrev pub window : List ℕ → ℕ → ℕ → List ℕ
window blob i n = take (i + n + 24 - (i - 48)) (drop (i - 48) blob)

abbrev pub marker_near : List (List ℕ) → List ℕ → List ℕ → Option ℕ → Bool
marker_near l blob needle none = false
marker_near l blob needle (some i) = any_marker l (window blob i (length needle))

abbrev pub advised : List (List ℕ) → List ℕ → List ℕ → Bool
advised l blob short =
    any
    (λ r. let n = around r.0 short r.1 in marker_near l blob n (find n blob))
    needle_rows

abbrev pub is_secondary_line_context : List ℕ → List ℕ → Bool
is_secondary_line_context blob short =
    advised markers blob short
    || any_marker markers blob && contains short blob && (has_text blob "RER " || has_text blob "TRAVAUX SUR")

abbrev pub primary_rows : List (String × String)
primary_rows =
    ("RER ", "") ∷ ("RER", "") ∷ ("METRO ", "") ∷ ("TRAVAUX SUR LES RER ", "") ∷ ("TRAVAUX SUR LE RER ", "")
    ∷ ("INCIDENT LIGNE ", "") ∷ ("LIGNE ", " :") ∷ ("LIGNE ", " -") ∷ ("LIGNE ", " INTERRUPT") ∷ ("LIGNE ", " TRAFIC")
    ∷ []

abbrev pub is_primary_context : List ℕ → List ℕ → Bool
is_primary_context blob short =
    names primary_rows blob short || begins (around "LIGNE " short "") blob || begins (around "METRO " short "") blob
    || begins (around "RER " short "") blob

abbrev pub leg_blob : Alert → List ℕ
leg_blob a = fold_alert_blob (or_empty_text (header a) ++ text " " ++ or_empty_text (description a))

abbrev pub text_compatible : List ℕ → List ℕ → Bool
text_compatible blob short =
    cond (is_empty blob) true
    (cond (is_empty (commercial_lines_in_text blob)) true
    (cond (not (any (λ m. same m short) (commercial_lines_in_text blob))) false
    (not (is_secondary_line_context blob short
    && any (λ m. not (same m short) && is_primary_context blob m) (commercial_lines_in_text blob)))))

abbrev pub alert_text_compatible_with_leg : Alert → List ℕ → Bool
alert_text_compatible_with_leg a route_short =
    cond (is_empty (trim route_short)) true (text_compatible (leg_blob a) (upper (trim route_short)))

-- product codes and their lines
abbrev pub products : List (List ℕ × List ℕ)
products =
    (text "C01742", text "A") ∷ (text "C01743", text "B") ∷ (text "C01727", text "C") ∷ (text "C01728", text "D")
    ∷ (text "C01729", text "E") ∷ (text "C01389", text "T1") ∷ (text "C01390", text "T2") ∷ (text "C01391", text "T3a")
    ∷ (text "C01679", text "T3b") ∷ []

abbrev pub name_of : List ℕ → List (List ℕ × List ℕ) → Option (List ℕ)
name_of c [] = none
name_of c (row ∷ l) = let r = name_of c l in cond (same c row.0) (some row.1) r

-- C01371 to C01384 are the lines 1 to 14, without a gap: these are worked out (02, C-13). The number that digits are,
-- and that of C and five digits, 0 where a text is none
abbrev pub decimal_value : ℕ → List ℕ → ℕ
decimal_value n [] = n
decimal_value n (b ∷ s) = decimal_value (10 * n + (b - 48)) s

abbrev pub code_number : List ℕ → ℕ
code_number [] = 0
code_number (b ∷ s) = cond (eqb b 67 && eqb (length s) 5 && all digit s) (decimal_value 0 s) 0

-- a line's number, below 20, in decimal
abbrev pub line_name : ℕ → List ℕ
line_name k = cond (ltb k 10) ((48 + k) ∷ []) (49 ∷ (38 + k) ∷ [])

abbrev pub idfm_product_to_short : List ℕ → Option (List ℕ)
idfm_product_to_short code =
    let n = code_number (upper code) in
    cond (leb 1371 n && leb n 1384) (some (line_name (n - 1370))) (name_of (upper code) products)

-- an id of the alert's routes is the line's name, or a code of the same line
abbrev pub is_text : Option (List ℕ) → List ℕ → Bool
is_text none t = false
is_text (some s) t = same s t

abbrev pub mapped_short : Option (List ℕ) → Option (List ℕ)
mapped_short none = none
mapped_short (some code) = idfm_product_to_short code

abbrev pub same_line : Option (List ℕ) → List ℕ → List ℕ → Option (List ℕ) → Bool
same_line leg short code none = false
same_line leg short code (some name) =
    short_names_equal short name && (is_text leg code || is_text (mapped_short leg) name)

abbrev pub by_product : Option (List ℕ) → List ℕ → Option (List ℕ) → Bool
by_product leg short none = false
by_product leg short (some code) = same_line leg short code (idfm_product_to_short code)

abbrev pub is_none : Option (List ℕ) → Bool
is_none none = true
is_none (some s) = false

abbrev pub by_name : List ℕ → List ℕ → Bool
by_name short r = short_names_equal short (segment r) && is_none (product_code_token r) && leb (length (segment r)) 4

abbrev pub route_hit : Alert → List ℕ → List ℕ → Bool
route_hit a route_id route_short =
    not (is_empty (informed_route_ids a))
    && (any (route_refs_match route_id) (informed_route_ids a)
    || not (is_empty (trim route_short))
    && any
    (λ r. by_name (trim route_short) r
    || by_product (product_code_token route_id) (trim route_short) (product_code_token r))
    (informed_route_ids a))

abbrev pub trip_hit : Alert → List ℕ → Bool
trip_hit a trip_id =
    not (is_empty (undated trip_id))
    && any
    (λ t. same t trip_id || same t (undated trip_id) || ends (text ":" ++ undated trip_id) t
    || any (same (undated trip_id)) (tail t))
    (informed_trip_ids a)

abbrev pub stop_hit : Alert → List ℕ → Bool
stop_hit a sid =
    not (is_empty sid) && not (is_empty (stop_tail sid))
    && any (λ s. same s sid || same_ignoring_case (stop_tail s) (stop_tail sid)) (informed_stop_ids a)

abbrev pub alert_applies_to_leg_with_mode : Alert → List ℕ → List ℕ → List ℕ → List ℕ → List ℕ → List ℕ → Bool
alert_applies_to_leg_with_mode a trip_id route_id route_short from_stop_id to_stop_id mode =
    cond (is_rail_like_mode mode && is_road_traffic_alert a) false
    (trip_hit a trip_id || (stop_hit a from_stop_id || stop_hit a to_stop_id)
    || route_hit a route_id route_short && alert_text_compatible_with_leg a route_short)
