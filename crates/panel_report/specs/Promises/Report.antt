-- Promise. What a report reads of a feed and writes.
use Rattle.std.specs.Prelude.{◌≡◌, List, ℕ, Option, ℤ}
use Rattle.std.proofs.Math.Option.{some}
use Rattle.formats_write.specs.Promises.Adds.{Wrote}
use Rattle.formats_write.specs.Promises.Given.{given_signed}
use Rattle.overlay.specs.Change.{feed_at}
use Rattle.overlay.specs.Image.{state_of}
use Rattle.overlay.specs.Report as report
use Rattle.overlay.specs.State.{State, count_of, timestamp_of}

-- what is read of the feed f
pub record Reads (o f : List ℕ) (count : ℕ) (t : Option ℤ) : Type 0 where
  pub count_is : {s : State} → state_of o ≡ some s → count ≡ count_of (feed_at f s)
  pub timestamp_is : {s : State} → state_of o ≡ some s → given_signed t ≡ timestamp_of (feed_at f s)

pub record Written (l m : List ℕ) (r : Option ℕ) (o f : List ℕ) : Type 0 where
  pub is : {s : State} → state_of o ≡ some s → Wrote l m r (report.report f s)
