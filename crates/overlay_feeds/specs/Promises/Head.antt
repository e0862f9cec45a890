-- Promise. What stands at an overlay's front.
use Rattle.std.specs.Prelude.{◌≡◌, List, ℕ, length}
use Rattle.formats.specs.Format.{number, list}
use Rattle.formats_read.specs.Promises.Here.{Here}
use Rattle.formats_read.specs.Promises.Lists.{Many}
use Rattle.overlay.specs.State.{State, overlay, feed_entry, version_of, feeds_of}

-- the version, the count of feeds and its place c, the place of the first feed
pub record HeadOf (b : List ℕ) (st : State) (q version c count first : ℕ) : Type 0 where
  pub version_is : version ≡ version_of st
  pub version_here : Here (number 0 18446744073709551615) b 1 c (version_of st)
  pub count_is : count ≡ length (feeds_of st)
  pub count_here : Here (number 0 0) b c first (length (feeds_of st))
  pub list_here : Here (list 4 feed_entry) b c q (feeds_of st)
  pub feeds_here : Many feed_entry b first q (feeds_of st)

-- they are those of a state that stands at 0
pub record ReadsHead (b : List ℕ) (version c count first : ℕ) : Type 0 where
  pub to : {st : State} {q : ℕ} → Here overlay b 0 q st → HeadOf b st q version c count first
