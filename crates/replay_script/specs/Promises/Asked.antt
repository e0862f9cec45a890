-- Promise. What is read of a call that stands in a script, and of the script.
use Rattle.std.specs.Prelude.{◌≡◌, List, ℕ, ◌≤◌, length, get_or, Option, Some, None}
use Rattle.std.proofs.Math.Option.{none, some}
use Rattle.std.proofs.Math.Seq.{slice}
use Rattle.formats.specs.Format.{Value}
use Rattle.formats_read.specs.Promises.Here.{Here}
use Rattle.formats_read.specs.Promises.Lists.{Many}
use Rattle.panel.specs.Questions.{whole}
use Rattle.replay_script.specs.Script.{clock_form, call_form, lengths_form, script}
use Rattle.replay_script.specs.declared.Asked.{Asked}

-- r is what the call v, which ends at q, asks for
pub record Reads (s : List ℕ) (r : Asked) (v : Value call_form) (q : ℕ) : Type 0 where
  pub kind : r.kind ≡ v.0
  pub feed : slice r.feed.from r.feed.to s ≡ v.1.0
  pub input : slice r.input.from r.input.to s ≡ v.1.1.0
  pub clock : (e : ℕ) × Here clock_form s r.clock e v.1.1.1.0
  pub out : r.out ≡ v.1.1.1.1.0
  pub work : Here lengths_form s r.work q v.1.1.1.1.1
  pub next : r.next ≡ q

pub record ReadsCall (s : List ℕ) (p : ℕ) (r : Asked) : Type 0 where
  pub of : {v : Value call_form} {q : ℕ} → Here call_form s p q v → Reads s r v q
  pub feed_forward : r.feed.from ≤ r.feed.to
  pub feed_within : r.feed.to ≤ length s
  pub input_forward : r.input.from ≤ r.input.to
  pub input_within : r.input.to ≤ length s

pub record ReadsLength (s : List ℕ) (p i r : ℕ) : Type 0 where
  pub of : {w : List ℕ} {q : ℕ} → Here lengths_form s p q w → r ≡ get_or w i 0

-- the n calls of a script stand from p on
pub record Stand (s : List ℕ) (n p : ℕ) : Type 0 where
  pub value : Value script
  pub is : whole script s ≡ some value
  pub count : length value ≡ n
  pub many : Many call_form s p (length s) value

abbrev pub CallsAre : List ℕ → Option (ℕ × ℕ) → Type 0
CallsAre s (Some (n, p)) = Stand s n p
CallsAre s None = whole script s ≡ none

pub record Counted (s : List ℕ) (r : Option (ℕ × ℕ)) : Type 0 where
  pub so : CallsAre s r
