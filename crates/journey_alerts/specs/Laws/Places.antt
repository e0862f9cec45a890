-- Law. The candidates among the alerts of a feed.
use Rattle.std.specs.Prelude.{◌≡◌, List, ℕ, ◌≤◌, length, get_or}
use Rattle.std.proofs.Common.{sym, arith}
use Rattle.std.proofs.Math.ListN.{get_or-eq_default}
use Rattle.decode.specs.Sizes.{most_old}
use Rattle.alerts_search.specs.Promises.Candidates.{Candidates}
use Rattle.alerts_search.specs.Promises.Places.{Noted}
use Rattle.alerts_search.specs.Laws.Found.{step, all_behind}
use Rattle.journey_alerts.specs.declared.LegTexts.{LegTexts}
use Rattle.journey_alerts.specs.Promises.Texts.{bytes_of}
use Rattle.journey_alerts.specs.Promises.Places.{Prepared}

-- past the end
pub beyond : (l : List ℕ) (k : ℕ) → length l ≤ k → 0 ≡ get_or l k 0
beyond l k h = sym (get_or-eq_default l 0 h)

-- the candidates
pub prepared : {s : List ℕ} {T : LegTexts} {b : List ℕ} {p n m : ℕ} {c old places : List ℕ}
    → Candidates (bytes_of s T.trip) (bytes_of s T.route) (bytes_of s T.from) (bytes_of s T.to) b p n c
    → Noted b p m old places → length old ≡ 256 → length b ≤ most_old → Prepared s T b p n c places
prepared C N e h = record {
  step = λ X H w k j. step C H w N (omega arith) (omega arith) k j;
  every = λ X H w. rw (X.trip, X.route, X.from, X.to) at (all_behind C H w);
}
