-- `alerts_patterns::contains_filled` meets its contract.
use Rattle.std.specs.Prelude.{◌≡◌, refl, List, ℕ, Option, Some, None}
use Rattle.std.specs.Option.{is_some}
use borrow.Author.Rules.{rules}
use Rattle.alerts.specs.Text.{contains, find}
use Rattle.alerts_patterns.specs.Promises.Occurrence.{found_of}
use Rattle.alerts_patterns.specs.Promises.Tables.{name_filled}
use Rattle.alerts_patterns.specs.Laws.Searching.{found_contained, nowhere_contained}
use Rattle.alerts_patterns.proofs.contains_filled.Goals as goal

contained : (p s : List ℕ) (r : Option ℕ) → r ≡ found_of (find p s) → is_some r ≡ contains p s
contained p s (Some i) e = found_contained p s i (Some i) e refl
contained p s None e = nowhere_contained p s None e refl

pub returns : goal.returns
returns c =
    let a = c.args in
    let e = contained (name_filled a.name.now a.pattern.now) a.s.now c.find_filled.result c.find_filled.ensures in
    search (rules, e)
