-- Law. The text test and the road test of an alert are those of the rules.
use Rattle.std.specs.Prelude.{◌≡◌, refl, List, [], ◌∷◌, ℕ}
use Rattle.std.proofs.Common.{inl, inr}
use Rattle.alerts.specs.Text.{text, trim}
use Rattle.alerts.specs.Alert.{Alert, header, description, cause, or_empty_text}
use Rattle.alerts.specs.Applies.{road_blob, alert_text_compatible_with_leg}
use Rattle.alerts.specs.Promises.Reduced.{text_fits, road}
use Rattle.alerts.proofs.Laws.Implied.{applies_reduced}
use Rattle.alerts_text.specs.Promises.Blob.{fits_of, road_of}

-- of an alert's texts these are the two tests of the reduced form
pub fits_alert : (a : Alert) (short : List ℕ)
    → fits_of (or_empty_text (header a)) (or_empty_text (description a)) short ≡ text_fits a short
fits_alert a short = refl

pub road_alert : (a : Alert)
    → road_of (or_empty_text (header a)) (or_empty_text (description a)) (or_empty_text (cause a)) ≡
    road (road_blob a)
road_alert a = refl

-- of two texts the test is that of the rules: an alert of the leg's route, and of nothing else, applies by its texts
abbrev pub saying : List ℕ → List ℕ → List (List ℕ) → Alert
saying h d routes = (inr h, (inr d, (inl tt, ([], (routes, [])))))

pub texts_fit_holds : (h d short : List ℕ) (routes : List (List ℕ))
    → alert_text_compatible_with_leg (saying h d routes) short ≡ fits_of h d (trim short)
texts_fit_holds h d short routes = applies_reduced (saying h d (text "R" ∷ [])) [] (text "R") short [] [] []
