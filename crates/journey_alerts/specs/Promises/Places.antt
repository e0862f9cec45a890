-- Promise. The candidates among the alerts of a feed, and what a caller lends.
use Rattle.std.specs.Prelude.{◌≡◌, Bool, List, ℕ, ◌≤◌, ◌<◌, length}
use Rattle.basics.specs.Lists.{filter}
use Rattle.formats.specs.Format.{list}
use Rattle.formats_read.specs.Promises.Here.{Here}
use Rattle.decode.specs.Sizes.{most_old}
use Rattle.alerts.specs.Alert.{Alert, alert}
use Rattle.alerts.specs.Index.{candidate}
use Rattle.alerts_search.specs.Promises.Marks.{most_marks}
use Rattle.alerts_search.specs.Laws.Found.{Step, behind}
use Rattle.journey.specs.Card.{Transit}
use Rattle.journey_alerts.specs.declared.LegTexts.{LegTexts}
use Rattle.journey_alerts.specs.Promises.Texts.{TextsOf}

-- what the texts of an alert are written into
abbrev pub most_text : ℕ
most_text = 2626

-- what a caller lends: for numbers of candidates, marks of those that were met
pub record Lent (b candidates met : List ℕ) : Type 0 where
  pub numbers : length candidates ≡ 256
  pub marks : length met ≡ most_marks
  pub small : length b ≤ most_old

abbrev pub is_candidate : Transit → Alert → Bool
is_candidate t a = candidate t.trip t.route t.from t.to a

-- the candidates of a leg among the alerts at p, by number, and where each stands
pub record Prepared (s : List ℕ) (T : LegTexts) (b : List ℕ) (p n : ℕ) (c places : List ℕ) : Type 0 where
  pub step : {t : Transit} → TextsOf s T t → {l : List Alert} {q : ℕ} → Here (list 256 alert) b p q l
      → length l ≤ 256 → (k : ℕ) → k < n → Step b l c places k
  pub every : {t : Transit} → TextsOf s T t → {l : List Alert} {q : ℕ} → Here (list 256 alert) b p q l
      → length l ≤ 256 → behind l c n ≡ filter (is_candidate t) l
