-- Promise. What the code asks of each pattern of a table.
use Rattle.std.specs.Prelude.{List, Bool, cond, ℕ, leb}
use Rattle.alerts.specs.Text.{find}
use Rattle.alerts.specs.Applies.{marker_near}
use Rattle.alerts.specs.Promises.Reduced.{advice_markers}
use Rattle.alerts_patterns.specs.Promises.Tables.{name_filled}

abbrev pub lesser : ℕ → ℕ → ℕ
lesser m n = cond (leb m n) m n

abbrev pub near_marker : List ℕ → List ℕ → Bool
near_marker s p = marker_near advice_markers s p (find p s)

-- the pattern p with a name in its place
abbrev pub near_filled : List ℕ → List ℕ → List ℕ → Bool
near_filled s name p = near_marker s (name_filled name p)
