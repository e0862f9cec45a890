-- Believe: 01, Cards and sheets. An alert and an alert sheet, as formats and by their parts.
use Rattle.std.specs.Prelude.{List, [], Bool, true, false, ℕ}
use Rattle.std.proofs.Common.{inl, inr}
use Rattle.basics.specs.Options.{Maybe, given_or}
use Rattle.formats.specs.Class.{printable, utf8}
use Rattle.formats.specs.Format.{Format, Value, text, constant, list, ◌&◌, optional}

abbrev pub ids : Format
ids = list 32 (text 64 printable)

abbrev pub alert : Format
alert = optional (text 512 utf8) & optional (text 2048 utf8) & optional (text 64 utf8) & ids & ids & ids

abbrev pub alert_sheet : Format
alert_sheet = constant 1 & list 256 alert

abbrev pub Alert : Type 0
Alert = Value alert

abbrev pub header : Alert → Maybe (List ℕ)
header a = a.0

abbrev pub description : Alert → Maybe (List ℕ)
description a = a.1.0

abbrev pub cause : Alert → Maybe (List ℕ)
cause a = a.1.1.0

abbrev pub informed_trip_ids : Alert → List (List ℕ)
informed_trip_ids a = a.1.1.1.0

abbrev pub informed_route_ids : Alert → List (List ℕ)
informed_route_ids a = a.1.1.1.1.0

abbrev pub informed_stop_ids : Alert → List (List ℕ)
informed_stop_ids a = a.1.1.1.1.1

abbrev pub is_given : Maybe (List ℕ) → Bool
is_given (inl u) = false
is_given (inr t) = true

-- an absent text is searched as an empty one
abbrev pub or_empty_text : Maybe (List ℕ) → List ℕ
or_empty_text t = given_or [] t
